use Rattle.std.proofs.Common.{◌≡◌, drop}
use Rattle.rule_book.specs.Limits.{AreEndsWithin}
use Rattle.formula_reader.specs.Excess.{first_of, end_at}
use Rattle.formula_reader.proofs.limits.ends.ends_excess.Given as goal

abbrev pub invariant-loop-place : goal.invariant-loop-place
invariant-loop-place l =
    (first_of (end_at l.defs.most l.defs.list) l.place (drop l.place l.lines)
    ≡ first_of (end_at l.defs.most l.defs.list) 0 l.lines)
    × (AreEndsWithin l.defs.most l.defs.list (drop l.place l.lines) → AreEndsWithin l.defs.most l.defs.list l.lines)
