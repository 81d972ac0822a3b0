-- The locals of a case need no other values than those of a range.
use Rattle.std.proofs.Common.{◌≡◌, ◌≢◌, ℕ, zero, suc, ◌+◌, ◌<◌, ◌≤◌, List, [], ◌∷◌, ◌++◌, length, length-append, map}
use Rattle.std.proofs.Common.{false, ◌⊎◌, inl, inr, refl, sym, ap, ◌∙◌, subst, arith}
use Rattle.std.specs.Prelude.{slice_index, nat_eq, if◌then◌else◌}
use Rattle.std.proofs.lemmas.Bool.{cases_Bool, cases_lt, cases_order, eqb-true, eq-eqb}
use Rattle.std.proofs.lemmas.List.{length-map}
use Rattle.heap_formula.specs.declared.terms.Term.{Term}
use Rattle.heap_formula.specs.declared.terms.Term.TheVariants.{Nil, Univ, Exist}
use Rattle.heap_formula.specs.declared.atoms.Pure.{Pure}
use Rattle.heap_formula.specs.declared.atoms.Pure.TheVariants.{Eq, Neq}
use Rattle.heap_formula.specs.declared.atoms.Spatial.{Spatial}
use Rattle.heap_formula.specs.declared.atoms.Spatial.TheVariants.{Cell, Pred}
use Rattle.heap_formula.specs.Symbolic.{SymbolicHeap}
use Rattle.heap_formula.specs.Fresh.{univ_bound, exist_bound, most_in_pure, most_in_spatial, most_in_heap, heap_bound}
use Rattle.heap_formula.specs.Fresh.{heap_exists}
use Rattle.heap_formula.specs.Words.{Each}
use Rattle.heap_formula.specs.Values.{Stack, value}
use Rattle.heap_formula.specs.Cells.{Cells}
use Rattle.heap_formula.specs.Meaning.{Family, Holds}
use Rattle.heap_formula.specs.Closedness.{InPure, InSpatial, InHeap}
use Rattle.heap_formula.proofs.AllMembers.{each_imply}
use Rattle.heap_formula.proofs.Greatest.{each_below}
use Rattle.cyc_basics.specs.Words.{IsMember, tabulated}
use Rattle.cyc_basics.proofs.Places.{tabulated-at}
use Rattle.model_check.specs.Constructive.{Inside}
use Rattle.general_models.specs.Ranges.{Leaves, IsWithin, Occur, IsRange}
use Rattle.model_check.proofs.OnlyLocals.{member_each}
use Rattle.model_check.proofs.KnownTerms.{in_heap_map}
use Rattle.general_models.proofs.FreshValues.{apart, member_or_not, unused}
use Rattle.general_models.proofs.Permuted.{IsKept, IsMoved, holds_moved, index_moved}

-- ---- the terms of a formula are below its bounds

pure_most : (f : Term → ℕ) (m : ℕ) (x : Pure) → most_in_pure f x ≤ m → InPure (λ t. f t ≤ m) x
pure_most f m (Eq t u) h = (omega arith, omega arith)
pure_most f m (Neq t u) h = (omega arith, omega arith)

spatial_most : (f : Term → ℕ) (m : ℕ) (x : Spatial) → most_in_spatial f x ≤ m → InSpatial (λ t. f t ≤ m) x
spatial_most f m (Cell t ts) h = (omega arith, each_below f m ts (omega arith))
spatial_most f m (Pred p ts) h = each_below f m ts h

pub heap_most : (f : Term → ℕ) (m : ℕ) (b : SymbolicHeap) → most_in_heap f b ≤ m → InHeap (λ t. f t ≤ m) b
heap_most f m b h = (
  each_imply (λ x. most_in_pure f x ≤ m) (InPure (λ t. f t ≤ m)) (pure_most f m) b.pure
      (each_below (most_in_pure f) m b.pure (omega arith)),
  each_imply (λ x. most_in_spatial f x ≤ m) (InSpatial (λ t. f t ≤ m)) (spatial_most f m) b.spatial
      (each_below (most_in_spatial f) m b.spatial (omega arith)),
)

-- ---- two values change places

abbrev swap : ℕ → ℕ → ℕ → ℕ
swap x y z = if nat_eq z x then y else if nat_eq z y then x else z

not_equal : (a b : ℕ) → a ≢ b → nat_eq a b ≡ false
not_equal a b n = elim (cases_Bool (nat_eq a b)) [ inl t ↦ absurd (n (eqb-true a b t)) | inr f ↦ f ]

swap_first : (x y : ℕ) → swap x y x ≡ y
swap_first x y = rw (eq-eqb x x refl) refl

swap_second : (x y : ℕ) → swap x y y ≡ x
swap_second x y = elim (cases_Bool (nat_eq y x)) [
  | inl t ↦ rw t (eqb-true y x t)
  | inr f ↦ rw (f, eq-eqb y y refl) refl
]

swap_other : (x y z : ℕ) → z ≢ x → z ≢ y → swap x y z ≡ z
swap_other x y z n m = rw (not_equal z x n, not_equal z y m) refl

swap_twice : (x y z : ℕ) → swap x y (swap x y z) ≡ z
swap_twice x y z = elim (cases_order z x) [
  | inl e ↦ ap (swap x y) (ap (swap x y) e ∙ swap_first x y) ∙ swap_second x y ∙ sym e
  | inr n ↦ elim (cases_order z y) [
    | inl e ↦ ap (swap x y) (ap (swap x y) e ∙ swap_second x y) ∙ swap_first x y ∙ sym e
    | inr m ↦ (let o = swap_other x y z (apart z x n) (apart z y m) in ap (swap x y) o ∙ o)
  ]
]

-- ---- entries of stacks

pub past_end : (s : Stack) (n : ℕ) → length s ≤ n → slice_index s n ≡ 0
past_end [] n l = refl
past_end (v ∷ s) zero l = absurd (omega arith)
past_end (v ∷ s) (suc n) l = past_end s n (omega arith)

pub index_member : (s : Stack) (n : ℕ) → n < length s → IsMember (slice_index s n) s
index_member [] n l = absurd (omega arith)
index_member (v ∷ s) zero l = inl refl
index_member (v ∷ s) (suc n) l = inr (index_member s n (omega arith))

pub length_tabulated : (f : ℕ → ℕ) (n : ℕ) → length (tabulated f n) ≡ n
length_tabulated f zero = refl
length_tabulated f (suc n) = ap suc (length_tabulated (λ i. f (suc i)) n)

pub tabulated_member : (f : ℕ → ℕ) (n i : ℕ) → i < n → IsMember (f i) (tabulated f n)
tabulated_member f zero i l = absurd (omega arith)
tabulated_member f (suc n) zero l = inl refl
tabulated_member f (suc n) (suc i) l = inr (tabulated_member (λ j. f (suc j)) n i (omega arith))

member_left : (x : ℕ) (xs ys : List ℕ) → IsMember x xs → IsMember x (xs ++ ys)
member_left x [] ys m = absurd m
member_left x (z ∷ xs) ys (inl e) = inl e
member_left x (z ∷ xs) ys (inr m) = inr (member_left x xs ys m)

member_right : (x : ℕ) (xs ys : List ℕ) → IsMember x ys → IsMember x (xs ++ ys)
member_right x [] ys m = m
member_right x (z ∷ xs) ys m = inr (member_right x xs ys m)

pub each_within : (range : List ℕ) (s : Stack) → IsMember 0 range → Each (λ v. IsMember v range) s → IsWithin range s
each_within range [] z e n = z
each_within range (v ∷ s) z e zero = e.0
each_within range (v ∷ s) z e (suc n) = each_within range s z e.1 n

module _ (h : Cells) (range numbers : List ℕ) (base fresh : ℕ) (o : Occur h numbers)
    (r : IsRange range numbers base fresh) where
  -- an argument: a value of the range that is below the base or one of those in use
  abbrev pub IsGiven : List ℕ → ℕ → Type 0
  IsGiven used v = IsMember v range × ((v < base) ⊎ IsMember v used)

  -- ---- a value outside the range changes places with a fresh one
  module _ (x i : ℕ) (out : IsMember x range → ⊥) where
    number_stays : (v : ℕ) → IsMember v numbers → swap x (base + i) v ≡ v
    number_stays v m =
        let low : v < base = member_each (λ u. u < base) v numbers m r.below in
        swap_other x (base + i) v (λ e. out (subst (λ u. IsMember u range) e (r.kept v m))) (λ e. omega arith)

    numbers_stay : (vs : List ℕ) → Each (λ v. IsMember v numbers) vs → map (swap x (base + i)) vs ≡ vs
    numbers_stay [] m = refl
    numbers_stay (v ∷ vs) m = λ j. number_stays v m.0 j ∷ numbers_stay vs m.1 j

    swap_leaves : Leaves (swap x (base + i)) h
    swap_leaves = record {
      nil = number_stays 0 o.nil;
      cells = λ a vs e. let k = o.cells a vs e in (number_stays a k.0, numbers_stay vs k.1);
    }

    given_stays : (used : List ℕ) → (IsMember (base + i) used → ⊥) → (v : ℕ) → IsGiven used v → swap x (base + i) v ≡ v
    given_stays used n v g =
        swap_other x (base + i) v (λ e. out (subst (λ u. IsMember u range) e g.0)) (λ e. elim g.1 [
          | inl low ↦ omega arith
          | inr m ↦ n (subst (λ u. IsMember u used) e m)
        ])

  module _ (P : Family) (keeps : (move : ℕ → ℕ) (twice : (x : ℕ) → move (move x) ≡ x) (leaves : Leaves move h)
      → IsKept move twice h leaves P) (s : Stack) (b : SymbolicHeap) (g : Cells) (inside : Inside g h) (used : List ℕ)
      (given : (j : ℕ) → j < heap_bound b → IsGiven used (slice_index s j)) (few : length used + heap_exists b ≤ fresh)
    where
      abbrev AreNarrow : ℕ → Type 0
      AreNarrow k = (e : Stack) × (length e ≡ heap_exists b) × ((j : ℕ) → j < k → IsMember (slice_index e j) range)
          × Holds (λ _. P) s e b g

      module _ (k : ℕ) (lt : k < heap_exists b) (e : Stack) (long : length e ≡ heap_exists b)
          (within : (j : ℕ) → j < k → IsMember (slice_index e j) range) (holds : Holds (λ _. P) s e b g)
          (out : IsMember (slice_index e k) range → ⊥) where
        abbrev moved_by : ℕ → ℕ → ℕ
        moved_by i = swap (slice_index e k) (base + i)

        module _ (i : ℕ) (l : i < fresh) (free : IsMember (base + i) used → ⊥) (new : IsMember (base + i) e → ⊥) where
          leaves : Leaves (moved_by i) h
          leaves = swap_leaves (slice_index e k) i out

          entry : (j : ℕ) → j < suc k → IsMember (moved_by i (slice_index e j)) range
          entry j lj = elim (cases_lt j k) [
            | inl below ↦
                let v = slice_index e j in
                let m = within j below in
                let here : IsMember v e = index_member e j (omega arith) in
                let stays : moved_by i v ≡ v = swap_other (slice_index e k) (base + i) v
                (λ q. out (subst (λ u. IsMember u range) q m)) (λ q. new (subst (λ u. IsMember u e) q here)) in
                subst (λ u. IsMember u range) (sym stays) m
            | inr above ↦
                let q : k ≡ j = omega arith in
                let first : moved_by i (slice_index e j) ≡ base + i = ap (λ n. moved_by i (slice_index e n)) (sym q)
                ∙ swap_first (slice_index e k) (base + i) in
                subst (λ u. IsMember u range) (sym first) (r.others i l)
          ]

          entries : (j : ℕ) → j < suc k → IsMember (slice_index (map (moved_by i) e) j) range
          entries j lj = subst (λ u. IsMember u range)
              (sym (index_moved (moved_by i) (swap_twice (slice_index e k) (base + i)) h leaves e j)) (entry j lj)

          term_moved : (t : Term) → univ_bound t ≤ heap_bound b
              → IsMoved (moved_by i) (swap_twice (slice_index e k) (base + i)) h leaves s e s (map (moved_by i) e) t
          term_moved Nil l' = sym leaves.nil
          term_moved (Univ j) l' = sym (given_stays (slice_index e k) i out used free (slice_index s j)
              (given j (omega arith)))
          term_moved (Exist n) l' = index_moved (moved_by i) (swap_twice (slice_index e k) (base + i)) h leaves e n

          by_swap : AreNarrow (suc k)
          by_swap = (
            map (moved_by i) e,
            length-map e (moved_by i) ∙ long,
            entries,
            holds_moved (moved_by i) (swap_twice (slice_index e k) (base + i)) h leaves s e s (map (moved_by i) e) P
                (keeps (moved_by i) (swap_twice (slice_index e k) (base + i)) leaves) b g inside
                (in_heap_map (λ t. univ_bound t ≤ heap_bound b)
                (IsMoved (moved_by i) (swap_twice (slice_index e k) (base + i)) h leaves s e s (map (moved_by i) e))
                term_moved b (heap_most univ_bound (heap_bound b) b (omega arith))) holds,
          )

        -- one more local has a value of the range
        swapped : AreNarrow (suc k)
        swapped =
            let there : IsMember (slice_index e k) (used ++ e) = member_right (slice_index e k) used e
            (index_member e k (omega arith)) in
            let n = length-append used e in
            let u = unused base fresh (used ++ e) (slice_index e k) there
            (λ i l q. out (subst (λ v. IsMember v range) q (r.others i l))) (omega arith) in
            by_swap u.0 u.1 (λ m. u.2 (member_left (base + u.0) used e m)) (λ m. u.2 (member_right (base + u.0) used e m))

      narrow : (k : ℕ) → k ≤ heap_exists b → (e : Stack) → length e ≡ heap_exists b → Holds (λ _. P) s e b g
          → AreNarrow k
      narrow zero l e long holds = (e, long, (λ j lj. absurd (omega arith)), holds)
      narrow (suc k) l e long holds =
          let q = narrow k (omega arith) e long holds in
          elim (member_or_not (slice_index q.0 k) range) [
            | inl m ↦ (q.0, q.1, more q.0 m q.2, q.3)
            | inr out ↦ swapped k (omega arith) q.0 q.1 q.2 q.3 out
          ]
        where
          more : (e : Stack) → IsMember (slice_index e k) range → ((j : ℕ) → j < k → IsMember (slice_index e j) range)
              → (j : ℕ) → j < suc k → IsMember (slice_index e j) range
          more e m all j lj = elim (cases_lt j k) [
            | inl below ↦ all j below
            | inr above ↦ (let q : k ≡ j = omega arith in subst (λ n. IsMember (slice_index e n) range) q m)
          ]

      -- the first entries of the locals
      same_values : (vs : List ℕ) → map (λ v. v) vs ≡ vs
      same_values [] = refl
      same_values (v ∷ vs) = λ i. v ∷ same_values vs i

      leaves_all : Leaves (λ v. v) h
      leaves_all = record { nil = refl; cells = λ a vs e. (refl, same_values vs) }

      cut : (e : Stack) (t : Term) → exist_bound t ≤ heap_exists b
          → value s (tabulated (slice_index e) (heap_exists b)) t ≡ value s e t
      cut e Nil l = refl
      cut e (Univ n) l = refl
      cut e (Exist n) l = tabulated-at (slice_index e) (heap_exists b) n (omega arith)

      -- where a formula holds for some values of its locals, it holds for values of the range
      pub narrowed : (e : Stack) → Holds (λ _. P) s e b g → (e' : Stack) × IsWithin range e' × Holds (λ _. P) s e' b g
      narrowed e holds =
          let e0 = tabulated (slice_index e) (heap_exists b) in
          let first = holds_moved (λ v. v) (λ v. refl) h leaves_all s e s e0 P (keeps (λ v. v) (λ v. refl) leaves_all)
          b g inside (in_heap_map (λ t. exist_bound t ≤ heap_exists b)
          (IsMoved (λ v. v) (λ v. refl) h leaves_all s e s e0) (cut e) b
          (heap_most exist_bound (heap_exists b) b (omega arith))) holds in
          let q = narrow (heap_exists b) (omega arith) e0 (length_tabulated (slice_index e) (heap_exists b)) first in
          (q.0, all q.0 q.1 q.2, q.3)
        where
          all : (e' : Stack) → length e' ≡ heap_exists b
              → ((j : ℕ) → j < heap_exists b → IsMember (slice_index e' j) range) → IsWithin range e'
          all e' long within n = elim (cases_lt n (heap_exists b)) [
            | inl l ↦ within n l
            | inr l ↦ subst (λ v. IsMember v range) (sym (past_end e' n (omega arith))) (r.kept 0 o.nil)
          ]
