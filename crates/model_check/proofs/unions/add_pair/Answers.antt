use Rattle.model_check.specs.WideMasks.{number}
use Rattle.model_check.proofs.Loops.{pair_added}
use Rattle.model_check.proofs.unions.add_pair.Goals as goal

pub returns-in_ok-add : goal.returns-in_ok-add
returns-in_ok-add c =
    pair_added (number c.args.part.now) (number c.args.rest.now) c.args.out.now c.add.new.self
    (number c.in_ok-union.field-0) c.in_ok-add.field-0 (c.is_apart.ensures.0 c.if-is_apart.true)
    c.in_ok-union.ensures c.in_ok-add.ensures
