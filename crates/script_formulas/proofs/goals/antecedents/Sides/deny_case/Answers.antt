use Rattle.std.proofs.Common.{◌≡◌, [], ◌∷◌, ◌++◌, Ok, true, false, sym, ◌∙◌, subst, arith}
use Rattle.std.specs.Prelude.{IfOk}
use Rattle.std.proofs.lemmas.Grind.{common_steps}
use Rattle.script_formulas.specs.declared.cases.joining.Way.TheVariants.{Conjunction}
use Rattle.script_formulas.specs.Joining.{join_all}
use Rattle.heap_formula.proofs.AllMembers.{each_last}
use Rattle.script_formulas.specs.Scope.{IsFine}
use Rattle.script_formulas.specs.Sides.{AreDenied, AreWithout, negations}
use Rattle.script_formulas.proofs.SideSteps.{without_open, without_closed, joined_fine, negations_fine}
use Rattle.script_formulas.proofs.goals.antecedents.Sides.deny_case.Goals as goal

pub returns-in_ok-self-clause-fine : goal.returns-in_ok-self-clause-fine
returns-in_ok-self-clause-fine c =
    let case = c.args.case.now in
    let none : case.quantified ≡ 0 = subst (λ r. IfOk r (λ _. case.quantified ≡ 0)) c.in_ok-others.ensures
    c.negated.ensures.none in
    let others : c.in_ok-others.others.items ≡ negations case.pure =
    subst (λ r. IfOk r (λ cs. cs.items ≡ negations case.pure)) c.in_ok-others.ensures c.negated.ensures.value in
    let joined : join_all Conjunction 0 c.args.self.now.asserted.items (negations case.pure)
    ≡ Ok c.in_ok-self.field-0.items = grind (arith, common_steps) in
    joined_fine _ _ _ c.requires.sides (negations_fine case c.requires.case none) joined

pub returns-in_ok-self-clause-without : goal.returns-in_ok-self-clause-without
returns-in_ok-self-clause-without c =
    let case = c.args.case.now in
    let any : case.any_heap ≡ true = sym c.any_heap.ensures ∙ c.if-any_heap.true in
    let none : case.quantified ≡ 0 = subst (λ r. IfOk r (λ _. case.quantified ≡ 0)) c.in_ok-others.ensures
    c.negated.ensures.none in
    let others : c.in_ok-others.others.items ≡ negations case.pure =
    subst (λ r. IfOk r (λ cs. cs.items ≡ negations case.pure)) c.in_ok-others.ensures c.negated.ensures.value in
    let joined : join_all Conjunction 0 c.args.self.now.asserted.items (negations case.pure)
    ≡ Ok c.in_ok-self.field-0.items = grind (arith, common_steps) in
    without_open case c.args.self.now.asserted.items c.args.self.now.denied.items c.in_ok-self.field-0.items
    c.requires.sides c.requires.case any none joined

pub returns-in_ok-push-clause-without : goal.returns-in_ok-push-clause-without
returns-in_ok-push-clause-without c =
    let case = c.args.case.now in
    let first = c.args.self.now.asserted.items in
    let second = c.args.self.now.denied.items in
    let same : c.in_ok-at.field-0 ≡ case = subst (λ r. IfOk r (λ x. x ≡ case)) c.in_ok-at.ensures c.copy.ensures in
    let pushed : second ++ case ∷ [] ≡ c.push.new.self.items = grind (arith, common_steps) in
    subst (λ l. AreWithout (case ∷ []) first second first l) pushed (without_closed case first second)

pub returns-in_ok-push-clause-others : goal.returns-in_ok-push-clause-others
returns-in_ok-push-clause-others c =
    let case = c.args.case.now in
    let second = c.args.self.now.denied.items in
    let same : c.in_ok-at.field-0 ≡ case = subst (λ r. IfOk r (λ x. x ≡ case)) c.in_ok-at.ensures c.copy.ensures in
    let pushed : second ++ case ∷ [] ≡ c.push.new.self.items = grind (arith, common_steps) in
    let closed : case.any_heap ≡ false = grind (arith, common_steps) in
    subst AreDenied pushed (
      each_last (IsFine 0) second case c.requires.others.0 c.requires.case,
      each_last (λ x. x.any_heap ≡ false) second case c.requires.others.1 closed,
    )
