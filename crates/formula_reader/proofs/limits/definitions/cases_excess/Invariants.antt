use Rattle.std.proofs.Common.{◌≡◌, drop}
use Rattle.formula_reader.specs.Excess.{first_of, case_at}
use Rattle.formula_reader.proofs.limits.definitions.cases_excess.Given as goal

abbrev pub invariant-loop-place : goal.invariant-loop-place
invariant-loop-place l =
    first_of (case_at l.defs.most l.defs.list l.arity) l.place (drop l.place l.cases)
    ≡ first_of (case_at l.defs.most l.defs.list l.arity) 0 l.cases
