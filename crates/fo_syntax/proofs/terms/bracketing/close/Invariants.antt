use Rattle.std.proofs.Common.{◌≡◌, ◌+◌, ◌++◌, length}
use Rattle.std.specs.Prelude.{map}
use Rattle.fo_syntax.specs.Seen.{mark_seen}
use Rattle.fo_syntax.specs.Brackets.{closings, behind_next}
use Rattle.fo_syntax.proofs.terms.bracketing.close.Given as goal

abbrev pub invariant-loop : goal.invariant-loop
invariant-loop l =
    (map mark_seen l.marks.items ++ closings l.waits ≡ map mark_seen l.fn.marks.items ++ closings l.fn.waits)
    × ((behind_next l.waits ≡ behind_next l.fn.waits) × (length l.waits + l.counter ≡ length l.fn.waits))
