use Rattle.std.proofs.Common.{◌≡◌, drop}
use Rattle.formula_reader.specs.Excess.{first_of, end_disjunct_at}
use Rattle.formula_reader.proofs.limits.ends.end_excess.Given as goal

abbrev pub invariant-loop-place : goal.invariant-loop-place
invariant-loop-place l =
    first_of (end_disjunct_at l.defs.most l.defs.list l.line) l.place (drop l.place l.disjuncts)
    ≡ first_of (end_disjunct_at l.defs.most l.defs.list l.line) 0 l.disjuncts
