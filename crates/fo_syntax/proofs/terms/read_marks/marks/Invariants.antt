use Rattle.std.proofs.Common.{◌≡◌, ◌≤◌, length, ◌-◌}
use Rattle.std.specs.Prelude.{map}
use Rattle.cyc_grammar.specs.Giving.{with_front}
use Rattle.fo_syntax.specs.declared.terms.bracket.Awaited.TheVariants.{First}
use Rattle.fo_syntax.specs.Depth.{depth}
use Rattle.fo_syntax.specs.Seen.{mark_seen}
use Rattle.fo_syntax.specs.Steps.{read_steps}
use Rattle.fo_syntax.specs.Grammar.{within}
use Rattle.fo_syntax.proofs.terms.read_marks.marks.Given as goal

abbrev pub invariant-loop : goal.invariant-loop
invariant-loop l =
    (with_front (map mark_seen l.items.items) (read_steps (within l.fn.locals) (length l.fn.cursor - l.counter)
    l.awaited l.cursor) ≡ read_steps (within l.fn.locals) (length l.fn.cursor) (First 0) l.fn.cursor)
    × (depth l.awaited ≤ l.counter)
