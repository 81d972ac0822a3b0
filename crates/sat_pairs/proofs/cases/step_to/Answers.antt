use Rattle.std.proofs.Common.{◌≡◌, ◌∙◌, ap, length, subst}
use Rattle.std.proofs.lemmas.Result.{IfOk-weaker}
use Rattle.pair_family.specs.Folding.{spoken}
use Rattle.pair_family.specs.LargeCases.{HasMore}
use Rattle.sat_pairs.specs.CaseStates.{GivesBy, StepsBy}
use Rattle.sat_pairs.specs.Numbers.{kept_numbers, with_numbers}
use Rattle.sat_pairs.proofs.cases.step_to.Goals as goal

pub returns-clause-given : goal.returns-clause-given
returns-clause-given c =
    let x = c.args.atom.now in
    let pairs = c.args.pairs.now in
    let rest = kept_numbers c.args.k c.args.rest.now in
    let numbers : c.deref.result.now ≡ with_numbers rest (spoken x) = c.deref.ensures.value
    ∙ (c.in_ok-push_spoken.ensures ∙ ap (λ z. with_numbers z (spoken x)) c.in_ok-numbers.ensures) in
    let after : c.len-after.result ≡ length rest = c.len-after.ensures
    ∙ (c.in_ok-numbers.numbers.ok.0 ∙ ap length c.in_ok-numbers.ensures) in
    IfOk-weaker c.step.result _ _ (λ v h. subst (λ z. StepsBy z (length rest) x pairs c.args.states.now v.keys) numbers
    (subst (λ z. StepsBy c.deref.result.now z x pairs c.args.states.now v.keys) after h)) c.step.ensures.given

pub returns-clause-many : goal.returns-clause-many
returns-clause-many c e =
    let x = c.args.atom.now in
    let pairs = c.args.pairs.now in
    let rest = kept_numbers c.args.k c.args.rest.now in
    let numbers : c.deref.result.now ≡ with_numbers rest (spoken x) = c.deref.ensures.value
    ∙ (c.in_ok-push_spoken.ensures ∙ ap (λ z. with_numbers z (spoken x)) c.in_ok-numbers.ensures) in
    let after : c.len-after.result ≡ length rest = c.len-after.ensures
    ∙ (c.in_ok-numbers.numbers.ok.0 ∙ ap length c.in_ok-numbers.ensures) in
    subst (λ z. HasMore c.args.most (GivesBy z (length rest) x pairs c.args.states.now)) numbers
    (subst (λ z. HasMore c.args.most (GivesBy c.deref.result.now z x pairs c.args.states.now)) after
    (c.step.ensures.many e))
