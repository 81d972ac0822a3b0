use Rattle.std.proofs.Common.{◌≡◌, ◌+◌, ◌≤◌, ◌<◌, [], ◌∷◌, ◌++◌, take, length, get_or, sym, ap, ◌∙◌, subst, arith}
use Rattle.std.proofs.lemmas.Grind.{common_steps}
use Rattle.std.proofs.lemmas.List.{take_more, take_all}
use Rattle.heap_formula.specs.Words.{Each}
use Rattle.heap_formula.proofs.AllMembers.{each_last}
use Rattle.script_formulas.specs.declared.script.Predicate.{Predicate}
use Rattle.script_formulas.specs.Formulas.{formula_of}
use Rattle.script_formulas.specs.Sorts.{IsSortedIn}
use Rattle.script_formulas.proofs.goals.sorts.check_predicates.Goals as goal

pub loop-number-preserved : goal.loop-number-preserved
loop-number-preserved c =
    let script = c.args.script.now in
    let qs = script.predicates.items in
    let i = c.loop-number.number in
    let q = c.predicate-item.result in
    let below : i < length qs = omega (arith, ap length c.deref-predicate-items.ensures.value) in
    let here : q ≡ get_or qs i q = grind (arith, common_steps) in
    let taken : take (i + 1) qs ≡ take i qs ++ q ∷ [] = take_more qs i q below
    ∙ ap (λ x. take i qs ++ x ∷ []) (sym here) in
    let sorted : IsSortedIn script q.parameters.items (formula_of q.body) =
    subst (λ known. IsSortedIn script known (formula_of q.body)) c.deref.ensures.value c.in_ok-check_formula.ensures in
    subst (Each (λ (r : Predicate). IsSortedIn script r.parameters.items (formula_of r.body))) (sym taken)
    (each_last (λ (r : Predicate). IsSortedIn script r.parameters.items (formula_of r.body)) (take i qs) q
    c.loop-number.invariant sorted)

pub returns : goal.returns
returns c =
    let script = c.args.script.now in
    let qs = script.predicates.items in
    let past : length qs ≤ c.loop-number.number = omega (arith, ap length c.deref-predicate-items.ensures.value) in
    subst (Each (λ (r : Predicate). IsSortedIn script r.parameters.items (formula_of r.body)))
    (take_all c.loop-number.number qs past) c.loop-number.invariant
