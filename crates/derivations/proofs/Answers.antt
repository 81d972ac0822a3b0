-- What the premises of a reason, and the edge of a link, come from.
use Rattle.std.proofs.Common.{◌≡◌, ℕ, List, [], Option, Some, None, slice_get, refl, ap}
use Rattle.std.specs.Prelude.{Result, Ok, Err}
use Rattle.trace_pairs.specs.Graph.{Edge, Pair}
use Rattle.logics.specs.Logics.{LogicValue}
use Rattle.derivations.specs.Tableau.{Subgoal, Made}
use Rattle.derivations.specs.Calculus.{judgement_of, answered, edge_along, edge_to, none_beside}

pub answer_is : {J F : Type 0} (answer : Result (List (Subgoal J)) F) (ps : List (Subgoal J))
    → answered answer ≡ Some ps → answer ≡ Ok ps
answer_is (Ok qs) ps h = let one : qs ≡ ps = (let e : Some qs ≡ Some ps = h in cc) in ap Ok one
answer_is (Err f) ps h = absurd (let e : None ≡ Some ps = h in cc)

-- a link has no premises
pub none_with : {J : Type 0} (o : Option Edge) (ps : List (Subgoal J)) → none_beside o ≡ Some ps
    → (e : Edge) × (o ≡ Some e) × (ps ≡ [])
none_with None ps h = absurd (let e : None ≡ Some ps = h in cc)
none_with (Some e) ps h = (e, refl, (let x : Some [] ≡ Some ps = h in cc))

module _ {J R F : Type 0} (c : LogicValue J R F) where
  -- a link without a fault to one of the nodes, its companion
  pub record IsLinked (nodes : List (Made J R)) (bud : J) (r : R) (target : ℕ) (e : Edge) : Type 0 where
    pub companion : Made J R
    pub is_companion : slice_get nodes target ≡ Some companion
    pub pairs : List Pair
    pub is : c.pairs_back bud r (judgement_of companion) ≡ Ok pairs
    pub edge : record { target = target; pairs = pairs } ≡ e

  pub linked : (nodes : List (Made J R)) (bud : J) (r : R) (target : ℕ) (e : Edge) →
      edge_to c bud r target (slice_get nodes target) ≡ Some e → IsLinked nodes bud r target e
  linked nodes bud r target e h = by_node (slice_get nodes target) refl h
    where
      by_pairs : (m : Made J R) (answer : Result (List Pair) F) → slice_get nodes target ≡ Some m →
          c.pairs_back bud r (judgement_of m) ≡ answer → edge_along target answer ≡ Some e
          → IsLinked nodes bud r target e
      by_pairs m (Err f) at is h = absurd (let x : None ≡ Some e = h in cc)
      by_pairs m (Ok pairs) at is h =
          let x : Some (record { target = target; pairs = pairs }) ≡ Some e = h in
          let one : record { target = target; pairs = pairs } ≡ e = cc in
          record { companion = m; is_companion = at; pairs = pairs; is = is; edge = one }

      by_node : (o : Option (Made J R)) → slice_get nodes target ≡ o → edge_to c bud r target o ≡ Some e
          → IsLinked nodes bud r target e
      by_node None at h = absurd (let x : None ≡ Some e = h in cc)
      by_node (Some m) at h = by_pairs m (c.pairs_back bud r (judgement_of m)) at refl h
