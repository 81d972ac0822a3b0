use Rattle.std.proofs.Common.{◌≡◌, ◌≢◌, length, false, arith, sym, ◌∙◌}
use Rattle.std.proofs.lemmas.Grind.{common_steps}
use Rattle.std.specs.List.{list_any}
use Rattle.script_formulas.proofs.GoalSteps.{closed_all, some_there}
use Rattle.script_formulas.proofs.goals.translation.question_of.Goals as goal

pub returns : goal.returns
returns c =
    let some : length c.args.denied.now ≢ 0 = grind (arith, common_steps) in
    let none : list_any (λ x. x.any_heap) c.args.asserted.now ≡ false = sym c.has_open.ensures ∙ c.if-has_open.false in
    (some_there c.args.denied.now some, closed_all c.args.asserted.now none)
