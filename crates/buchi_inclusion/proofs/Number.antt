-- The list of product states has each once.
use Rattle.std.proofs.Common.{◌≡◌, ℕ, zero, suc, ◌+◌, ◌<◌, ◌⊎◌, ◌↔◌, inl, inr, arith, true, List, [], ◌∷◌, Some, None}
use Rattle.std.proofs.Common.{slice_get, sym, refl, ap, subst, ◌∙◌}
use Rattle.std.proofs.lemmas.Bool.{cases_Bool, both_ways}
use Rattle.trace_pairs.specs.Graph.{Node}
use Rattle.std.specs.List.{list_any}
use Rattle.buchi_inclusion.specs.Product.{State, Reachable}
use Rattle.trace_pairs.specs.Graph.{IsGraph}
use Rattle.buchi_inclusion.specs.Answers.{AreAllReached, HasMoreThan}
use Rattle.buchi_core.proofs.Lists.{any_at, at_any}
use Rattle.buchi_inclusion.specs.States.{states_from}
use Rattle.buchi_inclusion.proofs.Universe.{closed_universe}
use Rattle.buchi_inclusion.proofs.Exact.{no_longer}
use Rattle.buchi_inclusion.specs.Equal.{same_state}
use Rattle.buchi_inclusion.specs.Decide.{is_reached, reached_from, once, product_states, number_of}
use Rattle.buchi_inclusion.proofs.Equal.{state_tells, state_reflects}
use Rattle.buchi_inclusion.proofs.Decide.{reached_sound, reached_complete}
use Rattle.buchi_inclusion.specs.Table.{AreApart}

record Listed (xs : List State) (s : State) : Type 0 where
  place : ℕ
  at : slice_get xs place ≡ Some s

listed_more : (x s : State) (xs : List State) → Listed xs s → Listed (x ∷ xs) s
listed_more x s xs h = record { place = suc h.place; at = h.at }

listed_cases : (x s : State) (xs : List State) → Listed (x ∷ xs) s → (x ≡ s) ⊎ Listed xs s
listed_cases x s xs h = at h.place h.at
  where
    at : (i : ℕ) → slice_get (x ∷ xs) i ≡ Some s → (x ≡ s) ⊎ Listed xs s
    at zero e = inl (let f : Some x ≡ Some s = e in cc)
    at (suc i) e = inr (record { place = i; at = e })

-- what is kept once was there, and what was there is kept
once_was : (xs : List State) (s : State) → Listed (once xs) s → Listed xs s
once_was [] s h = h
once_was (x ∷ xs) s h =
    elim (cases_Bool (list_any (same_state x) xs)) [
      | inl there ↦ (let h' : Listed (once xs) s = rw there at h in listed_more x s xs (once_was xs s h'))
      | inr new' ↦
          (let h' : Listed (x ∷ once xs) s = rw new' at h in
          elim (listed_cases x s (once xs) h') [
            | inl e ↦ record { place = 0; at = ap Some e }
            | inr m ↦ listed_more x s xs (once_was xs s m)
          ])
    ]

once_has : (xs : List State) (s : State) → Listed xs s → Listed (once xs) s
once_has [] s h = h
once_has (x ∷ xs) s h =
    elim (cases_Bool (list_any (same_state x) xs)) [
      | inl there ↦
          rw there (elim (listed_cases x s xs h) [
            | inl e ↦
                (let a = any_at (same_state x) xs there in
                let f : a.1 ≡ s = sym (state_tells x a.1 a.3) ∙ e in
                once_has xs s (record { place = a.0; at = a.2 ∙ ap Some f }))
            | inr m ↦ once_has xs s m
          ])
      | inr new' ↦
          rw new' (elim (listed_cases x s xs h) [
            | inl e ↦ record { place = 0; at = ap Some e }
            | inr m ↦ listed_more x s
                (once xs) (once_has xs s m)
          ])
    ]

apart_more : (x : State) (xs : List State) → (Listed xs x → ⊥) → AreApart xs → AreApart (x ∷ xs)
apart_more x xs new' apart zero zero s a b = refl
apart_more x xs new' apart zero (suc j) s a b = absurd
    (let e : Some x ≡ Some s = a in let f : s ≡ x = cc in new' (record { place = j; at = b ∙ ap Some f }))
apart_more x xs new' apart (suc i) zero s a b = absurd
    (let e : Some x ≡ Some s = b in let f : s ≡ x = cc in new' (record { place = i; at = a ∙ ap Some f }))
apart_more x xs new' apart (suc i) (suc j) s a b = ap suc (apart i j s a b)

once_apart : (xs : List State) → AreApart (once xs)
once_apart [] = λ i j s a b. absurd (let e : None ≡ Some s = a in cc)
once_apart (x ∷ xs) =
    elim (cases_Bool (list_any (same_state x) xs)) as (λ _. AreApart (once (x ∷ xs))) [
      | inl there ↦ rw there (once_apart xs)
      | inr new' ↦
          rw new' (apart_more x (once xs)
          (λ h. (let l = once_was xs x h in both_ways (list_any (same_state x) xs) new'
          (at_any (same_state x) xs l.place x l.at (state_reflects x))))
          (once_apart xs))
    ]

-- the states that are reached
reached_was : (g : List Node) (states : List State) (i : ℕ) (ss : List State) (s : State)
    → ((k : ℕ) (t : State) → slice_get ss k ≡ Some t → slice_get states (i + k) ≡ Some t)
    → Listed (reached_from g states i ss) s → Reachable g s
reached_was g states i [] s f h = absurd (let e : None ≡ Some s = h.at in cc)
reached_was g states i (x ∷ ss) s f h =
    let later : (k : ℕ) (t : State) → slice_get ss k ≡ Some t → slice_get states (suc i + k) ≡ Some t =
    λ k t e. (let n : i + suc k ≡ suc i + k = omega arith in subst (λ y. slice_get states y ≡ Some t) n (f (suc k) t e))
    in
    elim (cases_Bool (is_reached g states i)) [
      | inl yes' ↦
          (let h' : Listed (x ∷ reached_from g states (suc i) ss) s = rw yes' at h in
          elim (listed_cases x s (reached_from g states (suc i) ss) h') [
            | inl e ↦
                (let n : i + 0 ≡ i = omega arith in
                let at : slice_get states i ≡ Some x = subst (λ y. slice_get states y ≡ Some x) n (f 0 x refl) in
                subst (Reachable g) e (reached_sound g states i x at yes'))
            | inr m ↦ reached_was g states (suc i) ss s later m
          ])
      | inr no' ↦ (let h' : Listed (reached_from g states (suc i) ss) s = rw no' at h in
          reached_was g states (suc i) ss s later h')
    ]

reached_has : (g : List Node) (states : List State) (i k n : ℕ) (ss : List State) (s : State) → slice_get ss k ≡ Some s
    → n ≡ i + k → is_reached g states n ≡ true → Listed (reached_from g states i ss) s
reached_has g states i k n [] s at e r = absurd (let x : None ≡ Some s = at in cc)
reached_has g states i zero n (x ∷ ss) s at e r =
    let y : Some x ≡ Some s = at in
    let m : n ≡ i = omega arith in
    let r' : is_reached g states i ≡ true = subst (λ z. is_reached g states z ≡ true) m r in
    rw r' (record { place = 0; at = y })
reached_has g states i (suc k) n (x ∷ ss) s at e r =
    let h = reached_has g states (suc i) k n ss s at (omega arith) r in
    elim (cases_Bool (is_reached g states i)) [
      | inl yes' ↦ rw yes'
          (listed_more x s (reached_from g states (suc i) ss) h)
      | inr no' ↦ rw no' h
    ]

pub all_reached : (g : List Node) → IsGraph g → AreAllReached g (product_states g)
all_reached g is = record {
  some' = record {
    apart = once_apart (reached_from g (states_from 0 g) 0 (states_from 0 g));
    reached = λ i s at. (
        let l = once_was (reached_from g (states_from 0 g) 0 (states_from 0 g)) s (record { place = i; at = at }) in
        reached_was g (states_from 0 g) 0 (states_from 0 g) s
        (λ k t e. (let n : k ≡ 0 + k = omega arith in subst (λ y. slice_get (states_from 0 g) y ≡ Some t) n e)) l);
  };
  all' = λ s r. (
      let at = reached_complete g (states_from 0 g) (closed_universe g is.root is.is_root) s r in
      let l = once_has (reached_from g (states_from 0 g) 0 (states_from 0 g)) s
      (reached_has g (states_from 0 g) 0 at.i at.i (states_from 0 g) s at.at (omega arith) at.reached) in
      (l.place, l.at));
}

pub number_counted : (g : List Node) (limit : ℕ) → IsGraph g → (limit < number_of g) ↔ HasMoreThan g limit
number_counted g limit is = (
  λ h. (product_states g, (all_reached g is).some', h),
  λ h. omega (arith, h.2, no_longer g h.0 (product_states g) h.1 (all_reached g is)),
)
