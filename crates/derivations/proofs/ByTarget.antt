-- What a reason makes of a goal, by the node that it names if it is a link.
use Rattle.std.proofs.Common.{◌≡◌, ℕ, List, Option, Some, None, slice_get, sym, ap, subst, ◌∙◌}
use Rattle.std.specs.Prelude.{IfOk, Result, Ok, Err}
use Rattle.logics.specs.Logics.{LogicValue}
use Rattle.derivations.specs.declared.logic.Effect.{Effect}
use Rattle.derivations.specs.Effects.{IsEffect}
use Rattle.derivations.specs.Tableau.{Goal, Made}
use Rattle.derivations.specs.Calculus.{judgement_of, edge_along, edge_to, none_beside, premises_by, back_by}
use Rattle.derivations.specs.Calculus.{bare_calculus}
use Rattle.derivations.specs.LogicEffects.{IsEffectWith}

pub ok_map : {A E : Type 0} (P Q : A → Type 0) (r : Result A E) → ((a : A) → P a → Q a) → IfOk r P → IfOk r Q
ok_map P Q (Ok a) f h = f a h
ok_map P Q (Err e) f h = tt

module _ {J R F : Type 0} (c : LogicValue J R F) (nodes : List (Made J R)) (g : Goal J) (r : R) where
  pub by_target : (o : Option ℕ) → c.target r ≡ o → (e : Option (Effect J)) →
      IsEffectWith (premises_by c nodes g.premise.judgement r o) (back_by c nodes g.premise.judgement r o) e
      → IsEffect (bare_calculus c) nodes g r e
  by_target o is None h = ap (premises_by c nodes g.premise.judgement r) is ∙ h
  by_target o is (Some e) h =
      (ap (premises_by c nodes g.premise.judgement r) is ∙ h.0, ap (back_by c nodes g.premise.judgement r) is ∙ h.1)

  -- a link to no node has a fault
  pub to_nowhere : (target : ℕ) → c.target r ≡ Some target → slice_get nodes target ≡ None
      → IsEffect (bare_calculus c) nodes g r None
  to_nowhere target is none =
      by_target (Some target) is None (ap (λ (o : Option (Made J R)). none_beside
      (edge_to c g.premise.judgement r target o)) none)

  -- a link to a node
  pub to_node : (target : ℕ) (m : Made J R) → c.target r ≡ Some target → slice_get nodes target ≡ Some m
      → (e : Option (Effect J)) →
      IsEffectWith (none_beside (edge_along target (c.pairs_back g.premise.judgement r (judgement_of m))))
      (edge_along target (c.pairs_back g.premise.judgement r (judgement_of m))) e
      → IsEffect (bare_calculus c) nodes g r e
  to_node target m is at e h =
      by_target (Some target) is e (subst (λ (o : Option (Made J R)). IsEffectWith
      (none_beside (edge_to c g.premise.judgement r target o)) (edge_to c g.premise.judgement r target o) e)
      (sym at) h)
