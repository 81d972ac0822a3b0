-- What any reasons that may be given make is in order.
use Rattle.std.proofs.Common.{◌≡◌, ℕ, suc, inl, inr, List, [], ◌∷◌, Option, Some, None, slice_get, fold, sym, refl, ap}
use Rattle.std.proofs.Common.{subst, ◌∙◌}
use Rattle.trace_pairs.specs.Graph.{Node, IsGraph}
use Rattle.derivations.specs.Tableau.{Subgoal, Goal, Made, Tableau, Calculus, with_premises, at_next, step, begin}
use Rattle.derivations.specs.Search.{EachReplayed}
use Rattle.derivations.specs.Fair.{IsFair}
use Rattle.derivations.proofs.Graphs.{InOrder, graph_in_order}
use Rattle.derivations.proofs.TableauSteps.{next_tableau, begins, next_in_order}
use Rattle.cyc_basics.proofs.Options.{option_cases}

-- a reason without a fault keeps a tableau in order
pub at_next_in_order : {J R : Type 0} (c : Calculus J R) (Occurs : J → Type 0) (Allows : R → Type 0)
    → IsFair c Occurs Allows → (j : J) (nodes : List (Made J R)) (graph : List Node) (goals : List (Goal J)) (r : R)
    (t : Tableau J R) →
    InOrder c Occurs Allows j (record { nodes = nodes; goals = goals; graph = graph }) → Allows r
    → at_next c nodes graph r goals ≡ Some t → InOrder c Occurs Allows j t
at_next_in_order c Occurs Allows fair j nodes graph [] r t ok allowed h = absurd (let e : None ≡ Some t = h in cc)
at_next_in_order {J} {R} c Occurs Allows fair j nodes graph (g ∷ rest) r t ok allowed h = split (c.premises nodes g r)
    refl h
  where
    split : (o : Option (List (Subgoal J))) → c.premises nodes g r ≡ o → with_premises c nodes graph r g rest o ≡ Some t
        → InOrder c Occurs Allows j t
    split None has e = absurd (let e' : None ≡ Some t = e in cc)
    split (Some ps) has e =
        let e' : Some (next_tableau c nodes graph g rest ps r) ≡ Some t = e in
        let e'' : next_tableau c nodes graph g rest ps r ≡ t = cc in
        subst (InOrder c Occurs Allows j) e''
        (next_in_order c Occurs Allows fair j nodes graph g rest r ps ok allowed has)

-- a fault stays one
pub fold_none : {J R : Type 0} (c : Calculus J R) (d : List R) → fold (step c) None d ≡ None
fold_none c [] = refl
fold_none c (r ∷ d) = fold_none c d

-- so does a list of them, from any tableau in order
pub replayed_from : {J R : Type 0} (c : Calculus J R) (Occurs : J → Type 0) (Allows : R → Type 0)
    → IsFair c Occurs Allows → (j : J) (d : List R) (from t : Tableau J R) → InOrder c Occurs Allows j from
    → ((k : ℕ) (r : R) → slice_get d k ≡ Some r → Allows r) →
    fold (step c) (Some from) d ≡ Some t → InOrder c Occurs Allows j t
replayed_from c Occurs Allows fair j [] from t ok all' h =
    let e : Some from ≡ Some t = h in
    let e' : from ≡ t = cc in subst (InOrder c Occurs Allows j) e' ok
replayed_from {J} {R} c Occurs Allows fair j (r ∷ d) from t ok all' h =
    elim (option_cases (step c (Some from) r)) [
      | inl none ↦
          absurd (let e : None ≡ Some t = sym (fold_none c d)
          ∙ (ap (λ (o : Option (Tableau J R)). fold (step c) o d) (sym none) ∙ h) in cc)
      | inr one ↦
          replayed_from c Occurs Allows fair j d one.0 t
          (at_next_in_order c Occurs Allows fair j from.nodes from.graph from.goals r one.0 ok (all' 0 r refl)
          one.1) (λ k x at. all' (suc k) x at)
          (ap (λ (o : Option (Tableau J R)). fold (step c) o d) (sym one.1) ∙ h)
    ]

pub all_replayed : {J R : Type 0} (c : Calculus J R) (Occurs : J → Type 0) (Allows : R → Type 0)
    → IsFair c Occurs Allows → EachReplayed c Occurs Allows (λ t. IsGraph t.graph)
all_replayed c Occurs Allows fair j d t occurs all' h some' =
    graph_in_order c Occurs Allows fair j t (replayed_from c Occurs Allows fair j d (begin j) t
    (begins c Occurs Allows j occurs) all' h) some'
