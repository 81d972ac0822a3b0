use Rattle.std.proofs.Common.{◌≡◌, drop}
use Rattle.std.specs.List.{list_any}
use Rattle.pred_defs.specs.Faults.{has_far_local}
use Rattle.pred_defs.proofs.library.some_has_far_local.Given as goal

abbrev pub invariant-loop-case : goal.invariant-loop-case
invariant-loop-case l =
    list_any (has_far_local l.most) (drop l.case-index l.cases) ≡ list_any (has_far_local l.most) l.cases
