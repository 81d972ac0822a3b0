use Rattle.std.proofs.Common.{drop, ◌↔◌}
use Rattle.model_check.specs.WideMasks.{number, HoldsMask}
use Rattle.model_check.proofs.unions.has_mask.Given as goal

abbrev pub invariant-loop-other : goal.invariant-loop-other
invariant-loop-other l = HoldsMask (number l.mask) l.masks ↔ HoldsMask (number l.mask) (drop l.other-index l.masks)
