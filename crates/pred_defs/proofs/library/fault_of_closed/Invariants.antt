use Rattle.std.proofs.Common.{◌≡◌, drop}
use Rattle.pred_defs.specs.Faults.{first_fault, definition_fault}
use Rattle.pred_defs.proofs.library.fault_of_closed.Given as goal

abbrev pub invariant-loop-def : goal.invariant-loop-def
invariant-loop-def l = first_fault (definition_fault l.fn.defs) (drop l.def-index l.defs)
    ≡ first_fault (definition_fault l.fn.defs) l.defs
