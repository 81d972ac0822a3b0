use Rattle.std.proofs.Common.{◌≡◌, drop}
use Rattle.search_moves.specs.Folds.{bound_in}
use Rattle.search_moves.proofs.folds.binding.bound_in.Given as goal

abbrev pub invariant-loop-from : goal.invariant-loop-from
invariant-loop-from l = bound_in (drop l.from-index l.binding) l.variable ≡ bound_in l.binding l.variable
