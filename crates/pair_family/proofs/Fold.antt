-- A combination may be made in two steps.
use Rattle.std.proofs.Common.{◌≡◌, ◌≢◌, ℕ, zero, suc, ◌+◌, ◌<◌, ◌≤◌, max, ◌⊎◌, inl, inr, List, [], ◌∷◌, ◌++◌, map}
use Rattle.std.proofs.Common.{filter, arith, Bool, true, false, ◌||◌, ◌&&◌, not, sym, refl, ap, ◌∙◌, subst}
use Rattle.std.specs.Prelude.{nat_eq}
use Rattle.std.proofs.lemmas.Bool.{cases_Bool, cases_lt, or_cases, or_left, or_right, and_parts, and_from, eqb-true}
use Rattle.std.proofs.lemmas.Bool.{eq-eqb}
use Rattle.std.specs.List.{list_any}
use Rattle.heap_formula.specs.declared.terms.Term.{Term}
use Rattle.heap_formula.specs.declared.terms.Term.TheVariants.{Nil}
use Rattle.heap_formula.specs.Words.{Each}
use Rattle.pair_family.specs.BasePairs.{BasePair}
use Rattle.pair_family.specs.Classes.{class_of}
use Rattle.pair_family.specs.Combination.{Two, upto, pairs_below, each_two, against_nil, cell_differences, is_between}
use Rattle.pair_family.specs.Combination.{is_in_class, is_least, Facts, all_differ, both, AreConsistent, said}
use Rattle.pair_family.specs.Folding.{two_at, stated, IsOneOf}
use Rattle.pair_family.proofs.Lists.{at_each, each_at, in_left, in_right, in_append, in_map, map_in, in_filter}
use Rattle.pair_family.proofs.Lists.{filter_in, any_in, in_any, upto_in, in_pairs, pairs_in}
use Rattle.cyc_basics.specs.Words.{IsMember}
use Rattle.pair_family.proofs.Two.{two_append, append_two_left, append_two_right, append_two_cross, map_two}
use Rattle.pair_family.proofs.Classes.{classes_have, classes_least}
use Rattle.pair_family.proofs.Kept.{kept_differ, kept_cells_apart, cell_class, cells_two}
use Rattle.pair_family.proofs.Assigned.{cell_kept, worth, worth_same, worth_kept, worth_apart, worth_cases}
use Rattle.heap_formula.proofs.AllMembers.{each_append, each_front, each_back}
use Rattle.cyc_basics.proofs.Tests.{bool_same}

-- ---- the differences of two parts together

module _ (x y : Facts) where
  pub both_split : (q : Two) → IsMember q (all_differ (both x y))
      → IsMember q (all_differ x) ⊎ (IsMember q (all_differ y) ⊎ (IsMember q.0 x.cells × IsMember q.1 y.cells))
  both_split q m =
      elim (in_append q (x.differ ++ y.differ) (cell_differences (x.cells ++ y.cells)) m) [
        | inl i ↦ elim (in_append q x.differ y.differ i) [
          | inl j ↦ inl (in_left q x.differ (cell_differences x.cells) j)
          | inr j ↦ inr (inl (in_left q y.differ (cell_differences y.cells) j))
        ]
        | inr i ↦ elim (in_append q (against_nil (x.cells ++ y.cells)) (each_two (x.cells ++ y.cells)) i) [
          | inl j ↦
              (let r = map_in (λ t. (t, Nil)) q (x.cells ++ y.cells) j in
              elim (in_append r.0 x.cells y.cells r.1) [
                | inl n ↦ inl (in_right q x.differ (cell_differences x.cells)
                    (in_left q (against_nil x.cells) (each_two x.cells)
                    (subst (λ z. IsMember z (against_nil x.cells)) r.2 (in_map (λ t. (t, Nil)) r.0 x.cells n))))
                | inr n ↦ inr (inl (in_right q y.differ (cell_differences y.cells)
                    (in_left q (against_nil y.cells) (each_two y.cells)
                    (subst (λ z. IsMember z (against_nil y.cells)) r.2 (in_map (λ t. (t, Nil)) r.0 y.cells n)))))
              ])
          | inr j ↦ elim (two_append q x.cells y.cells j) [
            | inl n ↦ inl (in_right q x.differ (cell_differences x.cells)
                (in_right q (against_nil x.cells) (each_two x.cells) n))
            | inr o ↦ elim o [
              | inl n ↦ inr (inr n)
              | inr n ↦ inr (inl (in_right q y.differ (cell_differences y.cells)
                  (in_right q (against_nil y.cells) (each_two y.cells) n)))
            ]
          ]
        ]
      ]

  in_cells : (q : Two) → IsMember q (cell_differences (x.cells ++ y.cells)) → IsMember q (all_differ (both x y))
  in_cells q m = in_right q (x.differ ++ y.differ) (cell_differences (x.cells ++ y.cells)) m

  in_twos : (q : Two) → IsMember q (each_two (x.cells ++ y.cells)) → IsMember q (all_differ (both x y))
  in_twos q m = in_cells q (in_right q (against_nil (x.cells ++ y.cells)) (each_two (x.cells ++ y.cells)) m)

  in_nils : (t : Term) → IsMember t (x.cells ++ y.cells) → IsMember (t, Nil) (all_differ (both x y))
  in_nils t m = in_cells (t, Nil) (in_left (t, Nil) (against_nil (x.cells ++ y.cells)) (each_two (x.cells ++ y.cells))
      (in_map (λ t. (t, Nil)) t (x.cells ++ y.cells) m))

  pub both_first : (q : Two) → IsMember q (all_differ x) → IsMember q (all_differ (both x y))
  both_first q m =
      elim (in_append q x.differ (cell_differences x.cells) m) [
        | inl i ↦ in_left q (x.differ ++ y.differ) (cell_differences (x.cells ++ y.cells))
            (in_left q x.differ y.differ i)
        | inr i ↦ elim (in_append q (against_nil x.cells) (each_two x.cells) i) [
          | inl j ↦ (let r = map_in (λ t. (t, Nil)) q x.cells j in
              subst (λ z. IsMember z (all_differ (both x y))) r.2 (in_nils r.0 (in_left r.0 x.cells y.cells r.1)))
          | inr j ↦ in_twos q (append_two_left q x.cells y.cells j)
        ]
      ]

  pub both_second : (q : Two) → IsMember q (all_differ y) → IsMember q (all_differ (both x y))
  both_second q m =
      elim (in_append q y.differ (cell_differences y.cells) m) [
        | inl i ↦ in_left q (x.differ ++ y.differ) (cell_differences (x.cells ++ y.cells))
            (in_right q x.differ y.differ i)
        | inr i ↦ elim (in_append q (against_nil y.cells) (each_two y.cells) i) [
          | inl j ↦ (let r = map_in (λ t. (t, Nil)) q y.cells j in
              subst (λ z. IsMember z (all_differ (both x y))) r.2 (in_nils r.0 (in_right r.0 x.cells y.cells r.1)))
          | inr j ↦ in_twos q (append_two_right q x.cells y.cells j)
        ]
      ]

  pub both_cross : (t u : Term) → IsMember t x.cells → IsMember u y.cells → IsMember (t, u) (all_differ (both x y))
  both_cross t u i j = in_twos (t, u) (append_two_cross t u x.cells y.cells i j)

-- a difference with a cell at one side: nil, or each two cells
pub nil_in : (x : Facts) (t : Term) → IsMember t x.cells → IsMember (t, Nil) (all_differ x)
nil_in x t m = in_right (t, Nil) x.differ (cell_differences x.cells)
    (in_left (t, Nil) (against_nil x.cells) (each_two x.cells) (in_map (λ t. (t, Nil)) t x.cells m))

pub twos_in : (x : Facts) (q : Two) → IsMember q (each_two x.cells) → IsMember q (all_differ x)
twos_in x q m = in_right q x.differ (cell_differences x.cells) (in_right q (against_nil x.cells) (each_two x.cells) m)

-- ---- a bound of some values

upper : (ℕ → ℕ) → ℕ → ℕ
upper g zero = g 0
upper g (suc k) = max (g (suc k)) (upper g k)

upper_is : (g : ℕ → ℕ) (k i : ℕ) → i ≤ k → g i ≤ upper g k
unfolding upper
upper_is g zero i l = let e : i ≡ 0 = omega arith in let s = ap g e in omega arith
upper_is g (suc k) i l =
    elim (cases_lt k i) [
      | inl a ↦ (let e : i ≡ suc k = omega arith in let s = ap g e in omega arith)
      | inr b ↦ (let r = upper_is g k i b in omega arith)
    ]

-- ---- tests that agree

pub filter_same : {X : Type 0} (p q : X → Bool) (xs : List X) → ((x : X) → IsMember x xs → p x ≡ q x)
    → filter p xs ≡ filter q xs
filter_same p q [] e = refl
filter_same p q (x ∷ xs) e =
    let rest = filter_same p q xs (λ y i. e y (inr i)) in
    let here = e x (inl refl) in
    elim (cases_Bool (p x)) [
      | inl y ↦ (let y' : q x ≡ true = sym here ∙ y in rw (y, y') (ap (λ z. x ∷ z) rest))
      | inr n ↦ (let n' : q x ≡ false = sym here ∙ n in rw (n, n') rest)
    ]

pub any_same : {X : Type 0} (p q : X → Bool) (xs : List X) → ((x : X) → IsMember x xs → p x ≡ q x)
    → list_any p xs ≡ list_any q xs
any_same p q [] e = refl
any_same p q (x ∷ xs) e = let rest = any_same p q xs (λ y i. e y (inr i)) in let here = e x (inl refl) in
    λ i. here i || rest i

-- a pair's terms are in these two classes, in one order or the other
abbrev pub Links : (Term → ℕ) → Two → Term → Term → Type 0
Links f r t u = ((f r.0 ≡ f t) × (f r.1 ≡ f u)) ⊎ ((f r.0 ≡ f u) × (f r.1 ≡ f t))

pub links_between : (f : Term → ℕ) (at : ℕ → Term) (i j : ℕ) (r : Two) → Links f r (at i) (at j)
    → is_between f at i j r ≡ true
links_between f at i j r (inl a) = or_left _ _ (and_from _ _ (eq-eqb _ _ a.0) (eq-eqb _ _ a.1))
links_between f at i j r (inr a) = or_right _ _ (and_from _ _ (eq-eqb _ _ a.0) (eq-eqb _ _ a.1))

pub between_links : (f : Term → ℕ) (at : ℕ → Term) (i j : ℕ) (r : Two) → is_between f at i j r ≡ true
    → Links f r (at i) (at j)
between_links f at i j r h =
    elim (or_cases _ _ h) [
      | inl a ↦ (let p = and_parts _ _ a in inl (eqb-true _ _ p.0, eqb-true _ _ p.1))
      | inr a ↦ (let p = and_parts _ _ a in inr (eqb-true _ _ p.0, eqb-true _ _ p.1))
    ]

links_swap : (f : Term → ℕ) (r : Two) (t u : Term) → Links f r t u → Links f r u t
links_swap f r t u (inl a) = inr a
links_swap f r t u (inr a) = inl a

links_on : (f : Term → ℕ) (r : Two) (t u t' u' : Term) → f t ≡ f t' → f u ≡ f u' → Links f r t u → Links f r t' u'
links_on f r t u t' u' a b (inl l) = inl (l.0 ∙ a, l.1 ∙ b)
links_on f r t u t' u' a b (inr l) = inr (l.0 ∙ b, l.1 ∙ a)

pub links_to : (f g : Term → ℕ) → ((t u : Term) → f t ≡ f u → g t ≡ g u) → (r : Two) (t u : Term) → Links f r t u
    → Links g r t u
links_to f g go r t u (inl l) = inl (go r.0 t l.0, go r.1 u l.1)
links_to f g go r t u (inr l) = inr (go r.0 u l.0, go r.1 t l.1)

-- ---- x is told by what it says of n + 1 terms; y, and what is asked, speak of these terms alone

module _ (x y : Facts) (n : ℕ) (at : ℕ → Term) (consistent : AreConsistent x) (nil : IsOneOf n at Nil)
    (live_equal : (q : Two) → IsMember q y.equal → IsOneOf n at q.0 × IsOneOf n at q.1)
    (live_differ : (q : Two) → IsMember q (all_differ y) → IsOneOf n at q.0 × IsOneOf n at q.1)
    (live_cells : (t : Term) → IsMember t y.cells → IsOneOf n at t) where
  abbrev one : BasePair
  one = said n at x

  -- the first step's facts with the second part
  abbrev folded : Facts
  folded = both (stated at one) y

  abbrev whole : Facts
  whole = both x y

  abbrev f1 : Term → ℕ
  f1 = class_of x.equal

  abbrev f2 : Term → ℕ
  f2 = class_of whole.equal

  abbrev f3 : Term → ℕ
  f3 = class_of folded.equal

  one_two : (t u : Term) → f1 t ≡ f1 u → f2 t ≡ f2 u
  one_two t u e = classes_least f2 x.equal (each_front (λ q. f2 q.0 ≡ f2 q.1) x.equal y.equal
      (classes_have whole.equal)) t u e

  at_two : (i : ℕ) → f2 (at i) ≡ f2 (at i)
  at_two i = refl

  -- the folded classes are within the whole ones
  three_two : (t u : Term) → f3 t ≡ f3 u → f2 t ≡ f2 u
  three_two t u e =
      classes_least f2 folded.equal (at_each (λ q. f2 q.0 ≡ f2 q.1) folded.equal
      (λ q m. elim (in_append q (two_at at one.same) y.equal m) [
        | inl i ↦
            (let r = map_in (λ q. (at q.0, at q.1)) q one.same i in
            subst (λ z. f2 z.0 ≡ f2 z.1) r.2 (one_two (at r.0.0) (at r.0.1)
            (eqb-true _ _ (filter_in (λ q. nat_eq (f1 (at q.0)) (f1 (at q.1))) r.0 (pairs_below (suc n)) r.1).1)))
        | inr i ↦ each_at (λ q. f2 q.0 ≡ f2 q.1) y.equal q
            (each_back (λ q. f2 q.0 ≡ f2 q.1) x.equal y.equal (classes_have whole.equal)) i
      ])) t u e

  abbrev val : ℕ → ℕ
  val i = f3 (at i)

  same_at : Each (λ q. val q.0 ≡ val q.1) one.same
  same_at = at_each (λ q. val q.0 ≡ val q.1) one.same (λ q i.
      each_at (λ q. f3 q.0 ≡ f3 q.1) folded.equal (at q.0, at q.1) (classes_have folded.equal)
      (in_left (at q.0, at q.1) (two_at at one.same) y.equal (in_map (λ q. (at q.0, at q.1)) q one.same i)))

  abbrev w : ℕ
  w = suc (upper val n)

  below : (i : ℕ) → i ≤ n → val i < w
  below i l = let b = upper_is val n i l in omega arith

  abbrev v : Term → ℕ
  v = worth n at f1 (all_differ x) x.cells val same_at w below

  v_live : (t : Term) → IsOneOf n at t → v t ≡ f3 t
  v_live t l = ap v l.2 ∙ worth_kept n at f1 (all_differ x) x.cells val same_at w below l.0 l.1 ∙ ap f3 (sym l.2)

  two_v : (t u : Term) → f2 t ≡ f2 u → v t ≡ v u
  two_v t u e =
      classes_least v whole.equal (each_append (λ q. v q.0 ≡ v q.1) x.equal y.equal
      (at_each (λ q. v q.0 ≡ v q.1) x.equal (λ q i. worth_same n at f1 (all_differ x)
      x.cells val same_at w below q.0 q.1 (each_at (λ q. f1 q.0 ≡ f1 q.1) x.equal q (classes_have x.equal) i)))
      (at_each (λ q. v q.0 ≡ v q.1) y.equal (λ q i. let l = live_equal q i in
      v_live q.0 l.0 ∙ each_at (λ q. f3 q.0 ≡ f3 q.1) folded.equal q (classes_have folded.equal)
      (in_right q (two_at at one.same) y.equal i) ∙ sym (v_live q.1 l.1)))) t u e

  -- and of live terms the whole classes are the folded ones
  two_three : (t u : Term) → IsOneOf n at t → IsOneOf n at u → f2 t ≡ f2 u → f3 t ≡ f3 u
  two_three t u a b e = sym (v_live t a) ∙ two_v t u e ∙ v_live u b

  -- what is with a live term in the whole is with a live term in the first part
  reaches : (t u : Term) → IsOneOf n at u → f2 t ≡ f2 u → (i : ℕ) × (i ≤ n) × (f1 t ≡ f1 (at i)) × (f3 (at i) ≡ f3 u)
  reaches t u b e =
      elim (worth_cases n at f1 (all_differ x) x.cells val same_at w below t) [
        | inl a ↦ (a.0, a.1, a.2, sym a.3 ∙ two_v t u e ∙ v_live u b)
        | inr a ↦
            (let s : w + f1 t ≡ f3 (at b.0) = sym a ∙ two_v t u e ∙ v_live u b ∙ ap f3 b.2 in
            let l = below b.0 b.1 in absurd (omega arith))
      ]

  -- ---- consistency

  module _ (D : (q : Two) → IsMember q (all_differ x) → f2 q.0 ≢ f2 q.1) where
    two_of_one : (q : Two) → IsMember q (all_differ (stated at one)) → f2 q.0 ≢ f2 q.1
    two_of_one q m e =
        let C = λ (q : Two) (i : IsMember q (each_two x.cells)). D q (twos_in x q i) in
        elim (in_append q (two_at at one.differ) (cell_differences (map at one.cells)) m) [
          | inl i ↦
              (let r = map_in (λ q. (at q.0, at q.1)) q one.differ i in
              kept_differ n at f1 (all_differ x) x.cells f2 (λ i. f2 (at i)) at_two one_two D C r.0 r.1
              (ap (λ z. f2 z.0) r.2 ∙ e ∙ ap (λ z. f2 z.1) (sym r.2)))
          | inr i ↦ elim (in_append q (against_nil (map at one.cells)) (each_two (map at one.cells)) i) [
            | inl j ↦
                (let r = map_in (λ t. (t, Nil)) q (map at one.cells) j in
                let c = map_in at r.0 one.cells r.1 in
                let t = cell_class n at f1 (all_differ x) x.cells c.0 c.1 in
                D (t.0, Nil) (nil_in x t.0 t.1) (one_two t.0 (at c.0) t.2 ∙ ap f2 c.2 ∙ ap (λ z. f2 z.0) r.2 ∙ e
                ∙ ap (λ z. f2 z.1) (sym r.2)))
            | inr j ↦
                (let r = map_two at q one.cells j in
                kept_cells_apart n at f1 (all_differ x) x.cells f2 (λ i. f2 (at i)) at_two one_two D C r.0 r.1
                (ap f2 r.2 ∙ e ∙ ap f2 (sym r.3)))
          ]
        ]

  pub whole_folded : AreConsistent whole → AreConsistent folded
  whole_folded c = at_each (λ q. f3 q.0 ≢ f3 q.1) (all_differ folded) (λ q m e3.
      let D = λ (q : Two) (i : IsMember q (all_differ whole)). each_at (λ q. f2 q.0 ≢ f2 q.1) (all_differ whole) q c i
      in
      let e = three_two q.0 q.1 e3 in
      elim (both_split (stated at one) y q m) [
        | inl i ↦ two_of_one (λ q i. D q (both_first x y q i)) q i e
        | inr o ↦ elim o [
          | inl i ↦ D q (both_second x y q i) e
          | inr i ↦
              (let c = map_in at q.0 one.cells i.0 in
              let t = cell_class n at f1 (all_differ x) x.cells c.0 c.1 in
              D (t.0, q.1) (both_cross x y t.0 q.1 t.1 i.1) (one_two t.0 (at c.0) t.2 ∙ ap f2 c.2 ∙ e))
        ]
      ])

  -- a kept cell for a cell that is with a live term
  reached_cell : (t u : Term) → IsMember t x.cells → IsOneOf n at u → f2 t ≡ f2 u
      → (c : ℕ) × (IsMember c one.cells) × (f3 (at c) ≡ f3 u)
  reached_cell t u m l e =
      let a = reaches t u l e in
      let c = cell_kept n at f1 (all_differ x) x.cells t a.0 m a.1 a.2 in
      (c.0, c.1, two_three (at c.0) u (c.0, c.2, refl) l (one_two (at c.0) t c.3 ∙ e))

  pub folded_whole : AreConsistent folded → AreConsistent whole
  folded_whole c = at_each (λ q. f2 q.0 ≢ f2 q.1) (all_differ whole) (λ q m e.
      let D = λ (q : Two) (i : IsMember q (all_differ folded)). each_at (λ q. f3 q.0 ≢ f3 q.1) (all_differ folded) q c i
      in
      elim (both_split x y q m) [
        | inl i ↦
            (let A = at_each (λ q. val q.0 ≢ val q.1) one.differ
            (λ q j. D (at q.0, at q.1) (both_first (stated at one) y (at q.0, at q.1)
            (in_left (at q.0, at q.1) (two_at at one.differ) (cell_differences (map at one.cells))
            (in_map (λ q. (at q.0, at q.1)) q one.differ j)))) in
            worth_apart n at f1 (all_differ x) x.cells val same_at w below A q i
            (each_at (λ q. f1 q.0 ≢ f1 q.1) (all_differ x) q consistent i) (two_v q.0 q.1 e))
        | inr o ↦ elim o [
          | inl i ↦ (let l = live_differ q i in D q (both_second (stated at one) y q i) (two_three q.0 q.1 l.0 l.1 e))
          | inr i ↦
              (let r = reached_cell q.0 q.1 i.0 (live_cells q.1 i.1) e in
              D (at r.0, q.1) (both_cross (stated at one) y (at r.0) q.1 (in_map at r.0 one.cells r.1) i.1) r.2)
        ]
      ])

  -- ---- what both say of live terms

  in_differ : (a b : ℕ) (q : Two) → a ≤ n → b ≤ n → IsMember q (all_differ x) → f1 q.0 ≡ f1 (at a) → f1 q.1 ≡ f1 (at b)
      → IsMember (a, b) one.differ ⊎ IsMember (b, a) one.differ
  in_differ a b q l m i s r =
      elim (cases_lt a b) [
        | inl z ↦ inl (in_filter (λ q. list_any (is_between f1 at q.0 q.1) (all_differ x)) (a, b) (pairs_below (suc n))
            (in_pairs (suc n) a b z (omega arith)) (in_any (is_between f1 at a b) (all_differ x) q i
            (links_between f1 at a b q (inl (s, r)))))
        | inr z ↦ elim (cases_lt b a) [
          | inl z ↦ inr (in_filter (λ q. list_any (is_between f1 at q.0 q.1) (all_differ x)) (b, a)
              (pairs_below (suc n)) (in_pairs (suc n) b a z (omega arith))
              (in_any (is_between f1 at b a) (all_differ x) q i (links_between f1 at b a q (inr (s, r)))))
          | inr z' ↦ (let e : a ≡ b = omega arith in absurd (each_at (λ q. f1 q.0 ≢ f1 q.1) (all_differ x)
              q consistent i (s ∙ ap (λ z. f1 (at z)) e ∙ sym r)))
        ]
      ]

  abbrev Found : (Term → ℕ) → List Two → Term → Term → Type 0
  Found f ds t u = (r : Two) × IsMember r ds × Links f r t u

  in_stated : (a b : ℕ) → IsMember (a, b) one.differ → IsMember (at a, at b) (all_differ folded)
  in_stated a b i = both_first (stated at one) y (at a, at b)
      (in_left (at a, at b) (two_at at one.differ) (cell_differences (map at one.cells))
      (in_map (λ q. (at q.0, at q.1)) (a, b) one.differ i))

  forward : (q : Two) → IsMember q (all_differ whole) → (t u : Term) → IsOneOf n at t → IsOneOf n at u → f2 q.0 ≡ f2 t
      → f2 q.1 ≡ f2 u → Found f3 (all_differ folded) t u
  forward q m t u lt lu et eu =
      elim (both_split x y q m) [
        | inl i ↦
            (let a = reaches q.0 t lt et in
            let b = reaches q.1 u lu eu in
            elim (in_differ a.0 b.0 q a.1 b.1 i a.2 b.2) [
              | inl j ↦ ((at a.0, at b.0), in_stated a.0 b.0 j, inl (a.3, b.3))
              | inr j ↦ ((at b.0, at a.0), in_stated b.0 a.0 j, inr (b.3, a.3))
            ])
        | inr o ↦ elim o [
          | inl i ↦ (let l = live_differ q i in (
            q,
            both_second (stated at one) y q i,
            inl (two_three q.0 t l.0 lt et, two_three q.1 u l.1 lu eu),
          ))
          | inr i ↦
              (let r = reached_cell q.0 t i.0 lt et in (
                (at r.0, q.1),
                both_cross (stated at one) y (at r.0) q.1 (in_map at r.0 one.cells r.1) i.1,
                inl (r.2, two_three q.1 u (live_cells q.1 i.1) lu eu),
              ))
        ]
      ]

  backward : (q : Two) → IsMember q (all_differ folded) → (t u : Term) → f3 q.0 ≡ f3 t → f3 q.1 ≡ f3 u
      → Found f2 (all_differ whole) t u
  backward q m t u et3 eu3 =
      let et = three_two q.0 t et3 in
      let eu = three_two q.1 u eu3 in
      elim (both_split (stated at one) y q m) [
        | inl i ↦ elim (in_append q (two_at at one.differ) (cell_differences (map at one.cells)) i) [
          | inl j ↦
              (let r = map_in (λ q. (at q.0, at q.1)) q one.differ j in
              let g = any_in (is_between f1 at r.0.0 r.0.1) (all_differ x)
              (filter_in (λ q. list_any (is_between f1 at q.0 q.1) (all_differ x)) r.0 (pairs_below (suc n)) r.1).1
              in
              let l = links_to f1 f2 one_two g.0 (at r.0.0) (at r.0.1) (between_links f1 at r.0.0 r.0.1 g.0 g.2) in (
                g.0,
                both_first x y g.0 g.1,
                links_on f2 g.0 (at r.0.0) (at r.0.1) t u (ap (λ z. f2 z.0) r.2 ∙ et)
                    (ap (λ z. f2 z.1) r.2 ∙ eu) l,
              ))
          | inr j ↦ elim (in_append q (against_nil (map at one.cells)) (each_two (map at one.cells)) j) [
            | inl k ↦
                (let r = map_in (λ t. (t, Nil)) q (map at one.cells) k in
                let c = map_in at r.0 one.cells r.1 in
                let s = cell_class n at f1 (all_differ x) x.cells c.0 c.1 in (
                  (s.0, Nil),
                  both_first x y (s.0, Nil) (nil_in x s.0 s.1),
                  inl (one_two s.0 (at c.0) s.2 ∙ ap f2 c.2 ∙ ap (λ z. f2 z.0) r.2 ∙ et, ap (λ z. f2 z.1) r.2 ∙ eu),
                ))
            | inr k ↦
                (let r = map_two at q one.cells k in
                let s = cells_two n at f1 (all_differ x) x.cells r.0 r.1 in
                let l = links_to f1 f2 one_two s.0 (at r.0.0) (at r.0.1) s.2 in (
                  s.0,
                  both_first x y s.0 (twos_in x s.0 s.1),
                  links_on f2 s.0 (at r.0.0) (at r.0.1) t u (ap f2 r.2 ∙ et) (ap f2 r.3 ∙ eu) l,
                ))
          ]
        ]
        | inr o ↦ elim o [
          | inl i ↦ (q, both_second x y q i, inl (et, eu))
          | inr i ↦
              (let c = map_in at q.0 one.cells i.0 in
              let s = cell_class n at f1 (all_differ x) x.cells c.0 c.1 in
              ((s.0, q.1), both_cross x y s.0 q.1 s.1 i.1, inl (one_two s.0 (at c.0) s.2 ∙ ap f2 c.2 ∙ et, eu)))
        ]
      ]

  module _ (k : ℕ) (to : ℕ → Term) (live : (i : ℕ) → i ≤ k → IsOneOf n at (to i)) where
    classes_agree : (i j : ℕ) → i ≤ k → j ≤ k → nat_eq (f2 (to i)) (f2 (to j)) ≡ nat_eq (f3 (to i)) (f3 (to j))
    classes_agree i j a b = bool_same _ _ (λ e. eq-eqb _ _ (two_three (to i) (to j) (live i a) (live j b)
        (eqb-true _ _ e))) (λ e. eq-eqb _ _ (three_two (to i) (to j) (eqb-true _ _ e)))

    differ_agree : (i j : ℕ) → i ≤ k → j ≤ k → list_any (is_between f2 to i j) (all_differ whole)
        ≡ list_any (is_between f3 to i j) (all_differ folded)
    differ_agree i j a b = bool_same _ _
        (λ h. let q = any_in (is_between f2 to i j) (all_differ whole) h in
        elim (between_links f2 to i j q.0 q.2) [
          | inl l ↦ (let r = forward q.0 q.1 (to i) (to j) (live i a) (live j b) l.0 l.1 in
              in_any (is_between f3 to i j) (all_differ folded) r.0 r.1 (links_between f3 to i j r.0 r.2))
          | inr l ↦ (let r = forward q.0 q.1 (to j) (to i) (live j b) (live i a) l.0 l.1 in
              in_any (is_between f3 to i j) (all_differ folded) r.0 r.1
              (links_between f3 to i j r.0 (links_swap f3 r.0 (to j) (to i) r.2)))
        ])
        (λ h. let q = any_in (is_between f3 to i j) (all_differ folded) h in
        elim (between_links f3 to i j q.0 q.2) [
          | inl l ↦ (let r = backward q.0 q.1 (to i) (to j) l.0 l.1 in
              in_any (is_between f2 to i j) (all_differ whole) r.0 r.1 (links_between f2 to i j r.0 r.2))
          | inr l ↦ (let r = backward q.0 q.1 (to j) (to i) l.0 l.1 in
              in_any (is_between f2 to i j) (all_differ whole) r.0 r.1
              (links_between f2 to i j r.0 (links_swap f2 r.0 (to j) (to i) r.2)))
        ])

    least_agrees : (i : ℕ) → i ≤ k → is_least f2 to i ≡ is_least f3 to i
    least_agrees i a = ap not (any_same (λ j. is_in_class f2 to i (to j)) (λ j. is_in_class f3 to i (to j)) (upto i)
        (λ j m. let l = upto_in i j m in classes_agree j i (omega arith) a))

    cells_agree : (i : ℕ) → i ≤ k → list_any (is_in_class f2 to i) whole.cells
        ≡ list_any (is_in_class f3 to i) folded.cells
    cells_agree i a = bool_same _ _
        (λ h. let t = any_in (is_in_class f2 to i) whole.cells h in
        let e = eqb-true _ _ t.2 in
        elim (in_append t.0 x.cells y.cells t.1) [
          | inl m ↦ (let r = reached_cell t.0 (to i) m (live i a) e in
              in_any (is_in_class f3 to i) folded.cells (at r.0)
              (in_left (at r.0) (map at one.cells) y.cells (in_map at r.0 one.cells r.1)) (eq-eqb _ _ r.2))
          | inr m ↦ in_any (is_in_class f3 to i) folded.cells t.0 (in_right t.0 (map at one.cells) y.cells m)
              (eq-eqb _ _ (two_three t.0 (to i) (live_cells t.0 m) (live i a) e))
        ])
        (λ h. let t = any_in (is_in_class f3 to i) folded.cells h in
        let e = three_two t.0 (to i) (eqb-true _ _ t.2) in
        elim (in_append t.0 (map at one.cells) y.cells t.1) [
          | inl m ↦
              (let c = map_in at t.0 one.cells m in
              let s = cell_class n at f1 (all_differ x) x.cells c.0 c.1 in
              in_any (is_in_class f2 to i) whole.cells s.0 (in_left s.0 x.cells y.cells s.1)
              (eq-eqb _ _ (one_two s.0 (at c.0) s.2 ∙ ap f2 c.2 ∙ e)))
          | inr m ↦ in_any (is_in_class f2 to i) whole.cells t.0 (in_right t.0 x.cells y.cells m) (eq-eqb _ _ e)
        ])

    -- what the whole says is what the folded facts say
    pub said_same : said k to whole ≡ said k to folded
    said_same =
        let s = filter_same (λ q. nat_eq (f2 (to q.0)) (f2 (to q.1))) (λ q. nat_eq (f3 (to q.0)) (f3 (to q.1)))
        (pairs_below (suc k)) (λ q m. let l = pairs_in (suc k) q m in
        classes_agree q.0 q.1 (omega arith) (omega arith)) in
        let d = filter_same (λ q. list_any (is_between f2 to q.0 q.1) (all_differ whole))
        (λ q. list_any (is_between f3 to q.0 q.1) (all_differ folded)) (pairs_below (suc k))
        (λ q m. let l = pairs_in (suc k) q m in differ_agree q.0 q.1 (omega arith) (omega arith)) in
        let c = filter_same (λ i. is_least f2 to i && list_any (is_in_class f2 to i) whole.cells)
        (λ i. is_least f3 to i && list_any (is_in_class f3 to i) folded.cells) (upto (suc k))
        (λ i m. let l = upto_in (suc k) i m in let a = least_agrees i (omega arith) in
        let b = cells_agree i (omega arith) in λ z. a z && b z) in
        λ z. record { same = s z; differ = d z; cells = c z }
