use Rattle.std.proofs.Common.{◌≡◌, ◌+◌, ◌≤◌, ◌<◌, [], ◌∷◌, ◌++◌, take, length, get_or, sym, ap, ◌∙◌, subst, arith}
use Rattle.std.proofs.lemmas.Grind.{common_steps}
use Rattle.std.proofs.lemmas.List.{take_more, take_all}
use Rattle.heap_formula.specs.Words.{Each}
use Rattle.heap_formula.proofs.AllMembers.{each_last}
use Rattle.script_formulas.specs.declared.formula.ScriptFormula.{ScriptFormula}
use Rattle.script_formulas.specs.Formulas.{formula_of}
use Rattle.script_formulas.specs.Sorts.{IsSortedIn}
use Rattle.script_formulas.proofs.goals.sorts.check_asserts.Goals as goal

pub loop-number-preserved : goal.loop-number-preserved
loop-number-preserved c =
    let script = c.args.script.now in
    let known = c.args.known.now in
    let fs = c.args.formulas.now in
    let i = c.loop-number.number in
    let f = c.index-formulas-number.result in
    let below : i < length fs = grind (arith, common_steps) in
    let here : f ≡ get_or fs i f = grind (arith, common_steps) in
    let taken : take (i + 1) fs ≡ take i fs ++ f ∷ [] = take_more fs i f below
    ∙ ap (λ x. take i fs ++ x ∷ []) (sym here) in
    let sorted : IsSortedIn script known (formula_of f) = c.in_ok-check_formula.ensures in
    subst (Each (λ (g : ScriptFormula). IsSortedIn script known (formula_of g))) (sym taken)
    (each_last (λ (g : ScriptFormula). IsSortedIn script known (formula_of g)) (take i fs) f
    c.loop-number.invariant sorted)

pub returns : goal.returns
returns c =
    let script = c.args.script.now in
    let known = c.args.known.now in
    let fs = c.args.formulas.now in
    let past : length fs ≤ c.loop-number.number = grind (arith, common_steps) in
    subst (Each (λ (g : ScriptFormula). IsSortedIn script known (formula_of g)))
    (take_all c.loop-number.number fs past) c.loop-number.invariant
