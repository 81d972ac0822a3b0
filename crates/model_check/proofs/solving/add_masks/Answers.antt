use Rattle.std.proofs.Common.{arith, ◌≡◌}
use Rattle.model_check.specs.WideMasks.{number}
use Rattle.model_check.specs.Tables.{HasMask}
use Rattle.model_check.proofs.Loops.{loop_end}
use Rattle.model_check.proofs.TableSteps.{masks_added}
use Rattle.model_check.proofs.solving.add_masks.Goals as goal

pub returns-clause-members : goal.returns-clause-members
returns-clause-members c = λ q m. masks_added (HasMask c.loop-mask.table.items q m) (HasMask c.args.table.now.items q m)
    (q ≡ c.args.head) (λ y. number y ≡ m) c.args.masks.now (loop_end (λ y. (q ≡ c.args.head) × (number y ≡ m))
    c.args.masks.now c.loop-mask.mask-index (omega arith) (c.loop-mask.invariant.members q m))
