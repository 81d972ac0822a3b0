use Rattle.std.proofs.Common.{◌≡◌, drop}
use Rattle.formula_reader.specs.Excess.{first_of, disjunct_at}
use Rattle.formula_reader.proofs.limits.judgements.disjuncts_excess.Given as goal

abbrev pub invariant-loop-place : goal.invariant-loop-place
invariant-loop-place l =
    first_of (disjunct_at l.defs.most l.defs.list) l.place (drop l.place l.heaps)
    ≡ first_of (disjunct_at l.defs.most l.defs.list) 0 l.heaps
