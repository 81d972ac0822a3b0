-- A reason at the next goal keeps the derivation in order.
use Rattle.std.proofs.Common.{◌≡◌, ℕ, ◌+◌, ◌<◌, ◌≤◌, inl, inr, List, [], ◌∷◌, ◌++◌, map, reverse, Some, slice_get}
use Rattle.std.proofs.Common.{length, length-append, arith, sym, ap, subst, ◌∙◌}
use Rattle.std.proofs.lemmas.List.{map-append, length-reverse}
use Rattle.derivations.specs.System.{after}
use Rattle.derivations.specs.Tableau.{Goal, Made, Calculus, goals_of, replay}
use Rattle.derivations.specs.Fair.{IsFair}
use Rattle.derivations.proofs.TableauSteps.{next_tableau}
use Rattle.derivations.proofs.Waiting.{get_end_cases}
use Rattle.derivations.specs.declared.derivation.Derivation.{Derivation}
use Rattle.derivations.specs.declared.logic.Effect.{Effect}
use Rattle.derivations.specs.Derivations.{reasons_in, tableau_in, about, IsInOrder, HasEffect, MayTake, next_graph}
use Rattle.derivations.proofs.Stack.{next_of, length-goals_of}
use Rattle.derivations.proofs.Nexts.{replayed_next, graph_is}

-- the derivation with these nodes, goals and graph, about the same, is in order
pub in_order_about : {L J R : Type 0} (calculus : L → Calculus J R) (Occurs : L → J → Type 0) (Allows : L → R → Type 0)
    (s s' : Derivation L J R) → IsInOrder calculus Occurs Allows s → about s' ≡ about s →
    ((k : ℕ) (r : R) → slice_get (reasons_in s') k ≡ Some r → Allows s.logic r)
    → replay (calculus s.logic) s.root (reasons_in s') ≡ Some (tableau_in s')
    → length s'.made.items + length s'.goals.items ≤ s.limit → IsInOrder calculus Occurs Allows s'
in_order_about {L} {J} {R} calculus Occurs Allows s s' order same allowed replayed few = record {
  fair = subst (λ (a : L × (ℕ × J)). IsFair (calculus a.0) (Occurs a.0) (Allows a.0)) (sym same) order.fair;
  occurs = subst (λ (a : L × (ℕ × J)). Occurs a.0 a.1.1) (sym same) order.occurs;
  allowed = λ k r at. subst (λ (a : L × (ℕ × J)). Allows a.0 r) (sym same) (allowed k r at);
  replayed = subst (λ (a : L × (ℕ × J)). replay (calculus a.0) a.1.1 (reasons_in s') ≡ Some (tableau_in s')) (sym same)
      replayed;
  few = subst (λ (a : L × (ℕ × J)). length s'.made.items + length s'.goals.items ≤ a.1.0) (sym same) few;
  fits = subst (λ (a : L × (ℕ × J)). a.1.0 < 4294967296) (sym same) order.fits;
}

-- what a reason with this effect makes of the derivation
pub record Taken {L J R : Type 0} (calculus : L → Calculus J R) (s s' : Derivation L J R) (g : Goal J)
    (rest : List (Goal J)) (r : R) (e : Effect J) : Type 0 where
  pub goals : s.goals.items ≡ rest ++ g ∷ []
  pub opened : reverse s'.goals.items ≡ goals_of (length s.made.items) (g.depth + 1) 0 e.premises.items ++ reverse rest
  pub made : s'.made.items ≡ s.made.items ++ record { goal = g; reason = r } ∷ []
  pub traces : s'.traces ≡ next_graph calculus s e.back
  pub same : about s' ≡ about s

module _ {L J R : Type 0} (calculus : L → Calculus J R) (Occurs : L → J → Type 0) (Allows : L → R → Type 0)
    (s s' : Derivation L J R) (g : Goal J) (rest : List (Goal J)) (r : R) (e : Effect J)
    (order : IsInOrder calculus Occurs Allows s) (allowed : Allows s.logic r) (may : MayTake calculus s r e)
    (x : Taken calculus s s' g rest r e) where
  abbrev has : HasEffect calculus s r e
  has = may.has

  next : g ∷ reverse rest ≡ has.goal ∷ has.rest
  next = sym (next_of s.goals.items g rest x.goals) ∙ has.next

  is_goal : g ≡ has.goal
  is_goal = let e' = next in cc

  is_rest : reverse rest ≡ has.rest
  is_rest = let e' = next in cc

  pub reasons_more : reasons_in s' ≡ after (reasons_in s) r
  reasons_more = ap (map (λ (m : Made J R). m.reason)) x.made
      ∙ map-append (λ (m : Made J R). m.reason) s.made.items (record { goal = g; reason = r } ∷ [])

  is_tableau : next_tableau (calculus s.logic) s.made.items s.traces has.goal has.rest e.premises.items r
      ≡ tableau_in s'
  is_tableau = λ i. record {
    nodes = (ap (λ (y : Goal J). s.made.items ++ record { goal = y; reason = r } ∷ []) (sym is_goal) ∙ sym x.made) i;
    goals = ((λ k. goals_of (length s.made.items) ((sym is_goal k).depth + 1) 0 e.premises.items ++ sym is_rest k)
        ∙ sym x.opened) i;
    graph = (graph_is calculus Occurs Allows s order r e has ∙ sym x.traces) i;
  }

  replayed : replay (calculus s.logic) s.root (reasons_in s') ≡ Some (tableau_in s')
  replayed = ap (replay (calculus s.logic) s.root) reasons_more
      ∙ (replayed_next calculus Occurs Allows s order r e has ∙ ap Some is_tableau)

  all_allowed : (k : ℕ) (y : R) → slice_get (reasons_in s') k ≡ Some y → Allows s.logic y
  all_allowed k y at =
      elim (get_end_cases (reasons_in s) r y k (subst (λ (ds : List R). slice_get ds k ≡ Some y) reasons_more at)) [
        | inl old ↦ order.allowed k y old
        | inr new' ↦ subst (Allows s.logic) new'.1 allowed
      ]

  few_now : length s'.made.items + length s'.goals.items ≤ s.limit
  few_now =
      let a = ap length x.made in
      let b = length-append s.made.items (record { goal = g; reason = r } ∷ []) in
      let c = ap length x.opened in
      let d = length-append (goals_of (length s.made.items) (g.depth + 1) 0 e.premises.items) (reverse rest) in
      let f = length-goals_of (length s.made.items) (g.depth + 1) 0 e.premises.items in
      let h = length-reverse s'.goals.items in
      let k = ap length is_rest in
      omega (arith, a, b, c, d, f, h, k, may.room)

  pub taken : IsInOrder calculus Occurs Allows s'
  taken = in_order_about calculus Occurs Allows s s' order x.same all_allowed replayed few_now
