use Rattle.std.proofs.Common.{◌≡◌, drop}
use Rattle.std.specs.List.{list_any}
use Rattle.pred_defs.specs.Faults.{is_long}
use Rattle.pred_defs.proofs.library.some_is_long.Given as goal

abbrev pub invariant-loop-case : goal.invariant-loop-case
invariant-loop-case l = list_any (is_long l.most) (drop l.case-index l.cases) ≡ list_any (is_long l.most) l.cases
