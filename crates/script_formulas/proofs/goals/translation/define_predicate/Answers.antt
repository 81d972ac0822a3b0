use Rattle.std.proofs.Common.{◌≡◌, ◌∙◌, length, false, arith, sym, ap, subst}
use Rattle.std.specs.Prelude.{IfOk, OnOk}
use Rattle.std.specs.List.{list_any}
use Rattle.std.proofs.lemmas.Grind.{common_steps}
use Rattle.script_formulas.specs.declared.goals.heaps.Free.TheVariants.{Known}
use Rattle.script_formulas.specs.Translating.{AreHeapsOf}
use Rattle.script_formulas.specs.Defining.{HasDefined}
use Rattle.script_formulas.proofs.GoalSteps.{closed_all}
use Rattle.script_formulas.proofs.goals.translation.define_predicate.Goals as goal

pub returns : goal.returns
returns c =
    let arity = length c.args.predicate.now.parameters.items in
    let numbers = c.args.numbers.now in
    let before = c.args.building.now.defs.list in
    let now = c.define.new.self.defs.list in
    let cases = c.in_ok-cases.cases.items in
    let heaps = c.in_ok-heaps.heaps.items in
    let given = c.len-arity.result in
    let size : given ≡ arity = grind (arith, common_steps) in
    let none : list_any (λ x. x.any_heap) cases ≡ false = ap (list_any (λ x. x.any_heap)) (sym c.deref.ensures.value)
    ∙ sym c.has_open.ensures ∙ c.if-has_open.false in
    let made = subst (λ r. IfOk r (λ hs. AreHeapsOf numbers (Known given) c.deref-2.result.now hs.items))
    c.in_ok-heaps.ensures c.heaps_of.ensures in
    let translated = subst (λ k. AreHeapsOf numbers (Known k) cases heaps) size
    (subst (λ l. AreHeapsOf numbers (Known given) l heaps) c.deref-2.ensures.value made) in
    let defined = subst (λ l. HasDefined before given l now) c.deref-3.ensures.value
    (subst (λ r. OnOk r (HasDefined before given c.deref-3.result.now now)) c.in_ok-at.ensures c.define.ensures) in (
      defined.0,
      record {
        cases = cases;
        form = c.in_ok-cases.ensures.meaning;
        staged = c.in_ok-cases.ensures.staged;
        fine = c.in_ok-cases.ensures.fine;
        closed = closed_all cases none;
        heaps = heaps;
        translated = translated;
        taken = defined.2;
        parameters = defined.1 ∙ size;
      },
      defined.3,
    )
