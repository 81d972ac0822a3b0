-- The product is finite: a list of all forests that there can be is closed under its moves.
use Rattle.std.proofs.Common.{◌≡◌, ℕ, zero, suc, ◌+◌, ◌<◌, ◌≤◌, inl, inr, List, [], ◌∷◌, ◌++◌, map, arith, le_refl}
use Rattle.std.proofs.Common.{Bool, true, ◌&&◌, Option, Some, None, slice_get, length, filter, sym, refl, ap, ◌∙◌}
use Rattle.std.proofs.Common.{subst, option_map}
use Rattle.std.proofs.lemmas.Bool.{cases_Bool, cases_eq}
use Rattle.std.proofs.lemmas.Option.{slice_get_within, slice_get-map}
use Rattle.trace_pairs.specs.Graph.{Node, Pair}
use Rattle.buchi_core.specs.declared.event.Event.{Event}
use Rattle.buchi_core.specs.Forest.{Entry, grown, before_drop, is_filled, next_forest, start, top, has, leads}
use Rattle.buchi_core.specs.Forest.{progressing}
use Rattle.buchi_inclusion.specs.States.{each_with, all_lists, subs, parents_from, entry, all_entries, all_forests}
use Rattle.buchi_inclusion.specs.States.{state, states_from}
use Rattle.buchi_inclusion.specs.Product.{State, Moves, IsClosed}
use Rattle.buchi_core.proofs.Lists.{get_append_right}
use Rattle.buchi_core.proofs.Grown.{trim_at, grown_cases}
use Rattle.buchi_core.proofs.Drop.{settled_at, kept_parts, set_at_is}
use Rattle.buchi_core.proofs.Follow.{next_older}
use Rattle.buchi_core.proofs.Entries.{next_short}
use Rattle.buchi_core.proofs.Bits.{filled_has}
use Rattle.cyc_basics.proofs.Places.{get_append_left}

pub record Listed {X : Type 0} (xs : List X) (x : X) : Type 0 where
  pub place : ℕ
  pub is_x : slice_get xs place ≡ Some x

pub listed_left : {X : Type 0} (xs ys : List X) (x : X) → Listed xs x → Listed (xs ++ ys) x
listed_left xs ys x l = record { place = l.place; is_x = get_append_left xs ys l.place x l.is_x }

pub listed_right : {X : Type 0} (xs ys : List X) (x : X) → Listed ys x → Listed (xs ++ ys) x
listed_right xs ys x l = record {
  place = length xs + l.place;
  is_x = get_append_right xs ys l.place (length xs + l.place) refl ∙ l.is_x;
}

listed_map : {X Y : Type 0} (f : X → Y) (xs : List X) (x : X) → Listed xs x → Listed (map f xs) (f x)
listed_map f xs x l = record { place = l.place; is_x = slice_get-map f xs l.place ∙ ap (option_map f) l.is_x }

listed_with : {X Y Z : Type 0} (f : X → Y → Z) (xs : List X) (ys : List Y) (x : X) (y : Y) → Listed xs x → Listed ys y
    → Listed (each_with f xs ys) (f x y)
listed_with {X = X} f xs ys x y a b = at xs a.place a.is_x
  where
    at : (zs : List X) (i : ℕ) → slice_get zs i ≡ Some x → Listed (each_with f zs ys) (f x y)
    at [] i h = absurd (let e : None ≡ Some x = h in cc)
    at (z ∷ zs) zero h =
        let e' : Some z ≡ Some x = h in
        let e : z ≡ x = cc in
        listed_left (map (f z) ys) (each_with f zs ys) (f x y)
        (subst (λ w. Listed (map (f z) ys) (f w y)) e (listed_map (f z) ys y b))
    at (z ∷ zs) (suc i) h = listed_right (map (f z) ys) (each_with f zs ys) (f x y) (at zs i h)

listed_all : {X : Type 0} (n : ℕ) (xs l : List X) → length l ≤ n
    → ((i : ℕ) (x : X) → slice_get l i ≡ Some x → Listed xs x) → Listed (all_lists n xs) l
listed_all zero xs [] s h = record { place = 0; is_x = refl }
listed_all zero xs (x ∷ l) s h = absurd (omega arith)
listed_all (suc n) xs [] s h = record { place = 0; is_x = refl }
listed_all (suc n) xs (x ∷ l) s h =
    let r = listed_with (λ y ys. y ∷ ys) xs (all_lists n xs) x l (h 0 x refl)
    (listed_all n xs l (omega arith) (λ i y g. h (suc i) y g)) in
    record { place = suc r.place; is_x = r.is_x }

listed_filter : (t : ℕ → Bool) (qs : List ℕ) → Listed (subs qs) (filter t qs)
listed_filter t [] = record { place = 0; is_x = refl }
listed_filter t (q ∷ qs) =
    let r = listed_filter t qs in
    elim (cases_Bool (t q)) [
      | inl yes' ↦ rw yes' (listed_left (map (λ s. q ∷ s) (subs qs)) (subs qs) (q ∷ filter t qs)
          (listed_map (λ s. q ∷ s) (subs qs) (filter t qs) r))
      | inr no' ↦ rw no' (listed_right (map (λ s. q ∷ s) (subs qs)) (subs qs) (filter t qs) r)
    ]

filter_filter : (t u : ℕ → Bool) (qs : List ℕ) → filter t (filter u qs) ≡ filter (λ q. u q && t q) qs
filter_filter t u [] = refl
filter_filter t u (q ∷ qs) =
    let r = filter_filter t u qs in
    elim (cases_Bool (u q)) [
      | inl yes' ↦ rw yes' (elim (cases_Bool (t q)) [ inl y ↦ rw y (ap (λ s. q ∷ s) r) | inr n ↦ rw n r ])
      | inr no' ↦ rw no' r
    ]

filter_all : (qs : List ℕ) → filter (λ q. true) qs ≡ qs
filter_all [] = refl
filter_all (q ∷ qs) = ap (λ s. q ∷ s) (filter_all qs)

listed_none : (i n : ℕ) → Listed (parents_from i n) None
listed_none i zero = record { place = 0; is_x = refl }
listed_none i (suc n) = let r = listed_none (suc i) n in record { place = suc r.place; is_x = r.is_x }

listed_some : (i n p : ℕ) → i ≤ p → p < i + n → Listed (parents_from i n) (Some p)
listed_some i zero p a b = absurd (omega arith)
listed_some i (suc n) p a b =
    elim (cases_eq i p) [
      | inl e ↦ record { place = 0; is_x = ap (λ x. Some (Some x)) e }
      | inr ne ↦ (let r = listed_some (suc i) n p (omega arith) (omega arith) in
          record { place = suc r.place; is_x = r.is_x })
    ]

listed_entry : (positions : List ℕ) (e : Entry) (t : ℕ → Bool) → e.set ≡ filter t positions
    → Listed (parents_from 0 (length positions)) e.parent → Listed (all_entries positions) e
listed_entry positions e t s p = listed_with entry (parents_from 0 (length positions)) (subs positions) e.parent e.set p
    (subst (Listed (subs positions)) (sym s) (listed_filter t positions))

module _ (pairs : List Pair) (positions : List ℕ) (forest : List Entry) where
  grown_filter : (i : ℕ) (g : Entry) → slice_get (grown pairs positions forest) i ≡ Some g
      → (t : ℕ → Bool) × (g.set ≡ filter t positions)
  grown_filter i g h =
      elim (grown_cases pairs positions forest i g h) [
        | inl o ↦ ((λ q. leads pairs o.from.set q), o.set)
        | inr (inl o) ↦ ((λ q. leads (progressing pairs) o.from.set q), o.set)
        | inr (inr o) ↦ ((λ q. true), o.set ∙ sym (filter_all positions))
      ]

  next_filter : (j : ℕ) (e : Entry) → slice_get (next_forest pairs positions forest) j ≡ Some e
      → (t : ℕ → Bool) × (e.set ≡ filter t positions)
  next_filter j e h =
      let s = settled_at (before_drop pairs positions forest) j e h in
      let t = trim_at (grown pairs positions forest) s.i s.from s.is_from in
      let u = grown_filter s.i t.from t.is_from in (
        (λ q. u.0 q && t.filtered.0 q),
        s.set ∙ (t.filtered.1
            ∙ (ap (filter t.filtered.0) u.1 ∙ filter_filter t.filtered.0 u.0 positions)),
      )

  next_has : (j : ℕ) (e : Entry) → slice_get (next_forest pairs positions forest) j ≡ Some e
      → (q : ℕ) × (has e.set q ≡ true)
  next_has j e h =
      let s = settled_at (before_drop pairs positions forest) j e h in
      let k = (kept_parts (before_drop pairs positions forest) s.i s.kept).0 in
      filled_has e.set (subst (λ x. is_filled x ≡ true) (set_at_is (before_drop pairs positions forest)
      s.i s.from s.is_from ∙ sym s.set) k)

  next_parent : (j : ℕ) (e : Entry) → slice_get (next_forest pairs positions forest) j ≡ Some e → (o : Option ℕ)
      → e.parent ≡ o → Listed (parents_from 0 (length positions)) o
  next_parent j e h None a = listed_none 0 (length positions)
  next_parent j e h (Some p) a =
      let q = next_has j e h in
      let l = next_older pairs positions forest (Some p) q.0 j (record { e = e; is_e = h; parent = a; has_q = q.1 }) in
      listed_some 0 (length positions) p (omega arith)
      (omega (
        arith,
        l,
        slice_get_within (next_forest pairs positions forest) j e h,
        next_short pairs positions forest,
      ))

  listed_next : Listed (all_forests positions) (next_forest pairs positions forest)
  listed_next = listed_all (length positions) (all_entries positions) (next_forest pairs positions forest)
      (next_short pairs positions forest) (λ j e h. (
      let f = next_filter j e h in
      listed_entry positions e f.0 f.1 (next_parent j e h e.parent refl)))

listed_start : (positions : List ℕ) → Listed (all_forests positions) (start positions)
listed_start [] = listed_all 0 (all_entries []) [] (le_refl 0) (λ i x h. absurd (let e : None ≡ Some x = h in cc))
listed_start (q ∷ qs) = listed_all (suc (length qs)) (all_entries (q ∷ qs)) (top (q ∷ qs) ∷ []) (omega arith) at
  where
    at : (i : ℕ) (x : Entry) → slice_get (top (q ∷ qs) ∷ []) i ≡ Some x → Listed (all_entries (q ∷ qs)) x
    at zero x h =
        let e : Some (top (q ∷ qs)) ≡ Some x = h in
        subst (Listed (all_entries (q ∷ qs))) (let e' : top (q ∷ qs) ≡ x = cc in e')
        (listed_entry (q ∷ qs) (top (q ∷ qs)) (λ r. true) (sym (filter_all (q ∷ qs))) (listed_none 0 (length (q ∷ qs))))
    at (suc i) x h = absurd (let e : None ≡ Some x = h in cc)

listed_state : (v : ℕ) (nodes : List Node) (w i : ℕ) (n : Node) (f : List Entry) → slice_get nodes i ≡ Some n
    → w ≡ v + i → Listed (all_forests n.positions) f → Listed (states_from v nodes) (state w f)
listed_state v [] w i n f h e l = absurd (let x : None ≡ Some n = h in cc)
listed_state v (m ∷ nodes) w zero n f h e l =
    let x : Some m ≡ Some n = h in
    let x' : n ≡ m = cc in
    let e' : w ≡ v = omega arith in
    listed_left (map (state v) (all_forests m.positions)) (states_from (suc v) nodes) (state w f)
    (subst (λ u. Listed (map (state v) (all_forests m.positions)) (state u f)) (sym e')
    (listed_map (state v) (all_forests m.positions) f (subst (λ (y : Node). Listed (all_forests y.positions) f) x' l)))
listed_state v (m ∷ nodes) w (suc i) n f h e l =
    listed_right (map (state v) (all_forests m.positions)) (states_from (suc v) nodes) (state w f)
    (listed_state (suc v) nodes w i n f h (omega arith) l)

-- each finite graph's product has a list that is closed under its moves
pub closed_universe : (g : List Node) (root : Node) → slice_get g 0 ≡ Some root → IsClosed g (states_from 0 g)
closed_universe g root is_root = record {
  root = root;
  is_root = is_root;
  begin = (listed_state 0 g 0 0 root (start root.positions) is_root refl (listed_start root.positions)).place;
  begins = (listed_state 0 g 0 0 root (start root.positions) is_root refl (listed_start root.positions)).is_x;
  next = λ i s t event h m. (
      let l = listed_state 0 g m.e.target m.e.target m.target (next_forest m.e.pairs m.target.positions s.forest)
      m.is_target (omega arith) (listed_next m.e.pairs m.target.positions s.forest) in
      (l.place, l.is_x ∙ ap Some (state_is s t event m)));
}
  where
    state_is : (s t : State) (event : Event) (m : Moves g s t event)
        → record { node = m.e.target; forest = next_forest m.e.pairs m.target.positions s.forest } ≡ t
    state_is s t event m = λ i. record { node = sym m.node_is i; forest = sym m.forest_is i }
