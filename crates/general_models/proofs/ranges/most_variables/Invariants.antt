use Rattle.std.proofs.Common.{◌≤◌, take}
use Rattle.general_models.specs.Ranges.{HaveFewVariables}
use Rattle.general_models.proofs.ranges.most_variables.Given as goal

abbrev pub invariant-loop-def : goal.invariant-loop-def
invariant-loop-def l = record {
  least : l.least ≤ l.most;
  fits : l.most ≤ 131072;
  cases : HaveFewVariables l.most (take l.def-index l.defs);
}
