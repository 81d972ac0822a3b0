use Rattle.std.proofs.Common.{◌≡◌, ◌+◌, ◌≤◌, ◌<◌, [], ◌∷◌, ◌++◌, map, take, length, get_or, sym, ap, ◌∙◌, subst, arith}
use Rattle.std.proofs.lemmas.Grind.{common_steps}
use Rattle.std.proofs.lemmas.List.{take_more, take_all, map-append}
use Rattle.script_formulas.specs.Formulas.{formula_of}
use Rattle.script_formulas.specs.Sides.{AreDenied, AreSides}
use Rattle.script_formulas.proofs.goals.antecedents.sides_of.Goals as goal

pub loop-number-init : goal.loop-number-init
loop-number-init c = (
  c.in_ok-asserted_cases.ensures.fine,
  subst (λ l. AreSides (map formula_of c.args.script.now.asserted.items) [] c.in_ok-asserted_cases.field-0.items l)
      (sym c.new.ensures.items) c.in_ok-asserted_cases.ensures.meaning,
  subst AreDenied (sym c.new.ensures.items) (tt, tt),
)

pub loop-number-preserved : goal.loop-number-preserved
loop-number-preserved c =
    let asserted = map formula_of c.args.script.now.asserted.items in
    let gs = c.args.script.now.denied.items in
    let i = c.loop-number.number in
    let g = c.formula-item.result in
    let new = c.deny.new.self in
    let below : i < length gs = omega (arith, ap length c.deref-formula-items.ensures.value) in
    let here : g ≡ get_or gs i g = grind (arith, common_steps) in
    let taken : take (i + 1) gs ≡ take i gs ++ g ∷ [] = take_more gs i g below
    ∙ ap (λ x. take i gs ++ x ∷ []) (sym here)
    in
    let mapped = ap (map formula_of) taken ∙ map-append formula_of (take i gs) (g ∷ []) in (
      c.in_ok-deny.ensures.fine,
      subst (λ l. AreSides asserted l new.asserted.items new.denied.items) (sym mapped) (c.in_ok-deny.ensures.denied
          asserted (map formula_of (take i gs)) c.loop-number.invariant.1),
      c.in_ok-deny.ensures.others,
    )

pub returns-clause-sides : goal.returns-clause-sides
returns-clause-sides c =
    let gs = c.args.script.now.denied.items in
    let sides = c.loop-number.sides in
    let past : length gs ≤ c.loop-number.number = omega (arith, ap length c.deref-formula-items.ensures.value) in
    subst (λ l. AreSides (map formula_of c.args.script.now.asserted.items) (map formula_of l) sides.asserted.items
    sides.denied.items) (take_all c.loop-number.number gs past) c.loop-number.invariant.1
