use Rattle.std.proofs.Common.{◌≢◌, length, arith, sym, subst, refl}
use Rattle.std.proofs.lemmas.Grind.{common_steps}
use Rattle.script_formulas.specs.declared.goals.heaps.Free.TheVariants.{Placed}
use Rattle.script_formulas.specs.Translating.{AreHeapsOf}
use Rattle.script_formulas.proofs.GoalSteps.{disjuncts_of}
use Rattle.script_formulas.proofs.goals.succedents.succedent_of.Goals as goal

pub returns : goal.returns
returns c =
    let numbers = c.args.numbers.now in
    let constants = c.args.universals.constants in
    let order = c.args.universals.order in
    let cases = c.args.cases.now in
    let some : length cases ≢ 0 = grind (arith, common_steps) in
    disjuncts_of numbers (Placed constants order) constants order.now cases c.from_vec.result some (refl, refl)
    (subst (AreHeapsOf numbers (Placed constants order) cases) (sym c.from_vec.ensures) c.in_ok-heaps.ensures)
