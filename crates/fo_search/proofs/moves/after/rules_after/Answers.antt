use Rattle.std.proofs.Common.{◌≡◌, ◌<◌, ◌++◌, None, false, refl, length, map, ap, ◌∙◌, arith, subst}
use Rattle.std.specs.Prelude.{IsSome}
use Rattle.std.proofs.lemmas.Bool.{both_ways}
use Rattle.std.specs.List.{filter}
use Rattle.fo_formula.specs.declared.nodes.FoRule.TheVariants.{Unfold}
use Rattle.search_moves.specs.Places.{each_place}
use Rattle.fo_search.specs.After.{unfold_at}
use Rattle.fo_search.specs.Told.{rights_in}
use Rattle.fo_search.specs.Trying.{is_applicable_within}
use Rattle.fo_search.proofs.Cases.{all_left}
use Rattle.fo_search.proofs.moves.after.rules_after.Goals as goal

pub returns : goal.returns
returns c =
    let t = c.args.theory.now in
    let values = c.in_ok-values.values.items in
    let current = c.pop_front-current.result in
    let cases = c.pop_front-current.new.self.items in
    let unfolds = c.in_ok-unfolds.unfolds.items in
    let some : 0 < length c.in_ok-cases.cases.items → current ≡ None
    → ⊥ = λ h none. (let l = c.in_ok-cases.cases.ok.0 in
    let first = c.pop_front-current.ensures.variant.1 (omega (arith, h, l)) in
    both_ways false refl (subst IsSome none first)) in
    (λ i. filter (is_applicable_within c.args.most t (c.in_ok-clone.ensures.cases i))
    (rights_in (c.in_ok-clone.ensures.cases i).left values current cases ++ map Unfold unfolds))
    ∙ all_left c.args.most t c.args.sequent.now values current cases c.in_ok-cases.cases.items unfolds
    c.in_ok-values.ensures c.pop_front-current.ensures.items some c.in_ok-cases.ensures
    (c.in_ok-unfolds.ensures ∙ ap (each_place unfold_at) c.as_slice.ensures)
