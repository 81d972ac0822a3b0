use Rattle.std.proofs.Common.{◌≡◌, ◌+◌, ◌≤◌, ◌<◌, [], ◌∷◌, ◌++◌, Ok, map, take, length, get_or, sym}
use Rattle.std.proofs.Common.{ap, ◌∙◌, subst, arith}
use Rattle.std.proofs.lemmas.Grind.{common_steps}
use Rattle.std.proofs.lemmas.List.{take_more, take_all, map-append}
use Rattle.script_formulas.specs.declared.cases.joining.Way.TheVariants.{Conjunction}
use Rattle.script_formulas.specs.Formulas.{formula_of}
use Rattle.script_formulas.specs.Joining.{join_all}
use Rattle.script_formulas.specs.Sides.{AreSides}
use Rattle.script_formulas.proofs.SideSteps.{asserted_more, joined_fine}
use Rattle.script_formulas.proofs.goals.antecedents.asserted_cases.Goals as goal

pub loop-number-preserved : goal.loop-number-preserved
loop-number-preserved c =
    let fs = c.args.script.now.asserted.items in
    let i = c.loop-number.number in
    let f = c.formula-item.result in
    let old = c.loop-number.all.items in
    let more = c.in_ok-cases.cases.items in
    let new = c.in_ok-all.all.items in
    let joined : join_all Conjunction 0 old more ≡ Ok new = grind (arith, common_steps) in
    let below : i < length fs = omega (arith, ap length c.deref-formula-items.ensures.value) in
    let here : f ≡ get_or fs i f = grind (arith, common_steps) in
    let taken : take (i + 1) fs ≡ take i fs ++ f ∷ [] = take_more fs i f below
    ∙ ap (λ x. take i fs ++ x ∷ []) (sym here)
    in
    let mapped = ap (map formula_of) taken ∙ map-append formula_of (take i fs) (f ∷ []) in (
      joined_fine old more new c.loop-number.invariant.0 c.in_ok-cases.ensures.fine joined,
      subst (λ l. AreSides l [] new []) (sym mapped) (asserted_more (map formula_of (take i fs)) (formula_of f) old
          more new c.loop-number.invariant.0 c.in_ok-cases.ensures.fine c.in_ok-cases.ensures.meaning joined
          c.loop-number.invariant.1),
    )

pub returns-clause-meaning : goal.returns-clause-meaning
returns-clause-meaning c =
    let fs = c.args.script.now.asserted.items in
    let i = c.loop-number.number in
    let past : length fs ≤ i = omega (arith, ap length c.deref-formula-items.ensures.value) in
    subst (λ l. AreSides (map formula_of l) [] c.loop-number.all.items []) (take_all i fs past)
    c.loop-number.invariant.1
