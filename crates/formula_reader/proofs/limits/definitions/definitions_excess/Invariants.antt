use Rattle.std.proofs.Common.{◌≡◌, drop}
use Rattle.formula_reader.specs.Excess.{first_of, definition_at}
use Rattle.formula_reader.proofs.limits.definitions.definitions_excess.Given as goal

abbrev pub invariant-loop-place : goal.invariant-loop-place
invariant-loop-place l =
    first_of (definition_at l.defs.most l.defs.list) l.place (drop l.place l.defs.list)
    ≡ first_of (definition_at l.defs.most l.defs.list) 0 l.defs.list
