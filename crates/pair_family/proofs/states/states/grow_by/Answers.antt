use Rattle.std.proofs.Common.{rules, ◌≡◌, ◌+◌, ◌⊎◌, inl, inr, ◌∙◌}
use Rattle.std.proofs.lemmas.Result.{IfOk-weaker}
use Rattle.pair_family.specs.LargeCases.{sizes}
use Rattle.cyc_basics.specs.Words.{IsMember}
use Rattle.pair_family.proofs.Large.{more_imply}
use Rattle.pair_family.specs.Labels.{AreApartLabels, combined_pairs, combined, Gives}
use Rattle.pair_family.proofs.Growing.{grows_given}
use Rattle.pair_family.proofs.states.states.grow_by.Goals as goal

pub returns-in-Some-clause-grown : goal.returns-in-Some-clause-grown
returns-in-Some-clause-grown c =
    let start = c.args.step.now.numbers.now in
    let b = c.args.state.now in
    let places = c.args.step.now.places.now in
    let p = c.args.pair.now in
    let kept = c.args.step.now.kept.now in
    let given : AreApartLabels (combined_pairs start b places p)
    × (c.in-Some.known ≡ combined start b places p kept) = search rules in
    IfOk-weaker c.grow.result _ _ (λ n h. grows_given c.args.set.now.keys c.grow.new.set.keys c.in-Some.known
    (combined start b places p kept) (AreApartLabels (combined_pairs start b places p)) given h)
    c.grow.ensures.grown

pub returns-in-Some-clause-many : goal.returns-in-Some-clause-many
returns-in-Some-clause-many c e =
    let start = c.args.step.now.numbers.now in
    let b = c.args.state.now in
    let places = c.args.step.now.places.now in
    let p = c.args.pair.now in
    let kept = c.args.step.now.kept.now in
    let given : AreApartLabels (combined_pairs start b places p)
    × (c.in-Some.known ≡ combined start b places p kept) = search rules in
    more_imply (c.args.room + sizes c.args.set.now.keys) (λ d. IsMember d c.args.set.now.keys ⊎ (d ≡ c.in-Some.known))
    (λ d. IsMember d c.args.set.now.keys ⊎ Gives start b places kept d p)
    (λ d o. elim o [ inl m ↦ inl m | inr s ↦ inr (given.0, s ∙ given.1) ]) (c.grow.ensures.many e)
