use Rattle.std.proofs.Common.{length, refl}
use Rattle.general_models.proofs.RangedCases.{opened_result}
use Rattle.general_models.proofs.grounding.ground_opened.Goals as goal

pub returns : goal.returns
returns c =
    opened_result c.args.cells.now c.args.places.now.keys c.args.questions.now.keys c.ground_stacks.new.questions.keys
    c.args.rules.now.items c.ground_stacks.new.rules.items c.args.head c.args.range.now c.args.values.now
    c.args.case.now c.in_ok-opened.opened c.bound_of_heap-first.result (length c.args.chosen.now)
    c.args.chosen.now c.in_ok-start.start c.in_ok-stacks.stacks.items c.deref.result.now
    c.bound_of_heap-first.ensures.value c.in_ok-opened.ensures c.in_ok-start.ensures refl c.in_ok-stacks.ensures
    c.deref.ensures.value c.in_ok-ground_stacks.ensures
