use Rattle.std.proofs.Common.{◌≡◌, [], ◌∙◌, subst}
use Rattle.std.proofs.lemmas.Result.{IfOk-weaker}
use Rattle.pair_family.specs.Folding.{spoken}
use Rattle.pair_family.specs.LargeCases.{HasMore}
use Rattle.pair_family.specs.Labels.{GivesFrom, Grows}
use Rattle.sat_pairs.specs.Numbers.{places_in, count_from}
use Rattle.sat_pairs.proofs.cases.step.Goals as goal

pub returns-clause-given : goal.returns-clause-given
returns-clause-given c =
    let places : c.deref.result.now ≡ places_in c.args.numbers.now (spoken c.args.atom.now) = c.deref.ensures.value
    ∙ c.in_ok-places.ensures in
    let kept : c.deref-2.result.now ≡ count_from 0 c.args.after = c.deref-2.ensures.value ∙ c.in_ok-kept.ensures in
    IfOk-weaker c.states_after-next.result _ _ (λ v h. subst
    (λ z. Grows [] v.keys (GivesFrom c.args.numbers.now c.args.states.now
    (places_in c.args.numbers.now (spoken c.args.atom.now)) z c.args.pairs.now)) kept
    (subst (λ z.
    Grows [] v.keys (GivesFrom c.args.numbers.now c.args.states.now z c.deref-2.result.now c.args.pairs.now))
    places h)) c.states_after-next.ensures.given

pub returns-clause-many : goal.returns-clause-many
returns-clause-many c e =
    let places : c.deref.result.now ≡ places_in c.args.numbers.now (spoken c.args.atom.now) = c.deref.ensures.value
    ∙ c.in_ok-places.ensures in
    let kept : c.deref-2.result.now ≡ count_from 0 c.args.after = c.deref-2.ensures.value ∙ c.in_ok-kept.ensures in
    subst (λ z. HasMore c.args.most (GivesFrom c.args.numbers.now c.args.states.now
    (places_in c.args.numbers.now (spoken c.args.atom.now)) z c.args.pairs.now)) kept
    (subst (λ z.
    HasMore c.args.most (GivesFrom c.args.numbers.now c.args.states.now z c.deref-2.result.now c.args.pairs.now))
    places (c.states_after-next.ensures.many e))
