use Rattle.std.proofs.Common.{◌≡◌, ◌+◌, ◌≤◌, [], ◌∷◌, ◌++◌, take, length, sym, ap, ◌∙◌, subst, arith}
use Rattle.std.proofs.lemmas.List.{take_more, take_all}
use Rattle.script_formulas.specs.Formulas.{formula_of}
use Rattle.script_formulas.specs.Sides.{AreWithout}
use Rattle.script_formulas.proofs.SideSteps.{without_more, denied_more}
use Rattle.script_formulas.proofs.goals.antecedents.Sides.deny.Goals as goal

pub loop-case-preserved : goal.loop-case-preserved
loop-case-preserved c =
    let cs = c.deref-case-items.result.now in
    let i = c.loop-case.case-index in
    let case = c.case-item.result in
    let first = c.args.self.now.asserted.items in
    let second = c.args.self.now.denied.items in
    let old = c.loop-case.self in
    let new = c.deny_case.new.self in
    let taken : take (i + 1) cs ≡ take i cs ++ case ∷ [] = take_more cs i case c.loop-case-test.true
    ∙ ap (λ x. take i cs ++ x ∷ []) (sym c.case-item.is) in (
      c.in_ok-deny_case.ensures.fine,
      subst (λ l. AreWithout l first second new.asserted.items new.denied.items) (sym taken) (without_more (take i cs)
          case first second old.asserted.items old.denied.items new.asserted.items new.denied.items
          c.loop-case.invariant.1 c.in_ok-deny_case.ensures.without),
      c.in_ok-deny_case.ensures.others,
    )

pub returns-clause-denied : goal.returns-clause-denied
returns-clause-denied c fs gs said =
    let made = c.in_ok-cases.cases.items in
    let cs = c.deref-case-items.result.now in
    let first = c.args.self.now.asserted.items in
    let second = c.args.self.now.denied.items in
    let now = c.loop-case.self in
    let past : length cs ≤ c.loop-case.case-index = omega arith in
    let all = take_all c.loop-case.case-index cs past ∙ c.deref-case-items.ensures.value in
    let without = subst (λ l. AreWithout l first second now.asserted.items now.denied.items) all c.loop-case.invariant.1
    in
    denied_more fs gs (formula_of c.args.formula.now) made first second now.asserted.items now.denied.items
    c.in_ok-cases.ensures.meaning without said
