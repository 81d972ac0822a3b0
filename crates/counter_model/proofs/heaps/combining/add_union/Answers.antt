use Rattle.std.proofs.Common.{refl}
use Rattle.counter_model.proofs.UnionsOf.{union_added, not_added}
use Rattle.counter_model.proofs.heaps.combining.add_union.Goals as goal

pub returns-in_ok-push : goal.returns-in_ok-push
returns-in_ok-push c = λ h.
    union_added c.args.greatest c.args.part.now c.args.rest.now c.in_ok-with_cells.field-0 h c.args.out.now
    c.push.new.self c.in_ok-with_cells.ensures.below c.in_ok-push.ensures

pub returns-else-are_apart : goal.returns-else-are_apart
returns-else-are_apart c = λ h.
    not_added c.args.greatest c.args.part.now c.args.rest.now h c.args.out.now c.args.out.now c.are_apart.result
    c.if-are_apart.false c.are_apart.ensures refl
