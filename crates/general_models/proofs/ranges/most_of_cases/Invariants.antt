use Rattle.std.proofs.Common.{◌≤◌, take}
use Rattle.heap_formula.specs.Words.{Each}
use Rattle.general_models.specs.Ranges.{HasFewVariables}
use Rattle.general_models.proofs.ranges.most_of_cases.Given as goal

abbrev pub invariant-loop-case : goal.invariant-loop-case
invariant-loop-case l = record {
  least : l.least ≤ l.most;
  fits : l.most ≤ 131072;
  cases : Each (HasFewVariables l.most) (take l.case-index l.cases);
}
