use Rattle.std.proofs.Common.{◌≡◌, drop}
use Rattle.pred_defs.specs.Faults.{first_fault, case_fault}
use Rattle.pred_defs.proofs.library.fault_of_cases.Given as goal

abbrev pub invariant-loop-case : goal.invariant-loop-case
invariant-loop-case l = first_fault (case_fault l.defs) (drop l.case-index l.cases)
    ≡ first_fault (case_fault l.defs) l.cases
