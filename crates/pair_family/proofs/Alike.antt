-- Facts in another order say the same.
use Rattle.std.proofs.Common.{◌≡◌, ◌≢◌, ℕ, suc, ◌⊎◌, inl, inr, List, ◌++◌, true, not, ◌&&◌, sym, subst}
use Rattle.std.specs.Prelude.{nat_eq}
use Rattle.std.proofs.lemmas.Bool.{eqb-true, eq-eqb}
use Rattle.std.specs.List.{list_any}
use Rattle.heap_formula.specs.declared.terms.Term.{Term}
use Rattle.heap_formula.specs.declared.terms.Term.TheVariants.{Nil}
use Rattle.pair_family.specs.Classes.{class_of}
use Rattle.pair_family.specs.Combination.{Two, upto, pairs_below, each_two, against_nil, cell_differences, is_between}
use Rattle.pair_family.specs.Combination.{is_in_class, is_least, Facts, all_differ, both, AreConsistent, said}
use Rattle.pair_family.proofs.Lists.{at_each, each_at, in_left, in_right, in_append, in_map, map_in, any_in, in_any}
use Rattle.cyc_basics.specs.Words.{IsMember}
use Rattle.pair_family.proofs.Two.{two_append, append_two_left, append_two_right, append_two_cross}
use Rattle.pair_family.proofs.Classes.{classes_have, classes_least}
use Rattle.pair_family.proofs.Fold.{Links, links_between, between_links, links_to, filter_same, any_same}
use Rattle.cyc_basics.proofs.Tests.{bool_same}

-- a pair in one order or the other
abbrev pub IsEither : Two → List Two → Type 0
IsEither q qs = IsMember q qs ⊎ IsMember {X = Two} (q.1, q.0) qs

-- whatever the first facts say the second say
pub record AreCovered (x y : Facts) : Type 0 where
  pub equal : (q : Two) → IsMember q x.equal → IsMember q y.equal
  pub differ : (q : Two) → IsMember q x.differ → IsMember q y.differ
  pub cells : (t : Term) → IsMember t x.cells → IsMember t y.cells
  pub twos : (q : Two) → IsMember q (each_two x.cells) → IsEither q (each_two y.cells)

abbrev pub AreAlike : Facts → Facts → Type 0
AreAlike x y = AreCovered x y × AreCovered y x

covered_self : (x : Facts) → AreCovered x x
covered_self x = record { equal = λ q i. i; differ = λ q i. i; cells = λ t i. i; twos = λ q i. inl i }

covered_then : (x y z : Facts) → AreCovered x y → AreCovered y z → AreCovered x z
covered_then x y z a b = record {
  equal = λ q i. b.equal q (a.equal q i);
  differ = λ q i. b.differ q (a.differ q i);
  cells = λ t i. b.cells t (a.cells t i);
  twos = λ q i. elim (a.twos q i) [
    | inl j ↦ b.twos q j
    | inr j ↦ elim (b.twos (q.1, q.0) j) [ inl k ↦ inr k | inr k ↦ inl k ]
  ];
}

appended : {X : Type 0} (x : X) (us vs ws zs : List X) → (IsMember x us → IsMember x ws)
    → (IsMember x vs → IsMember x zs) → IsMember x (us ++ vs) → IsMember x (ws ++ zs)
appended x us vs ws zs f g i =
    elim (in_append x us vs i) [ inl j ↦ in_left x ws zs (f j) | inr j ↦ in_right x ws zs (g j) ]

either_left : (q : Two) (xs ys : List Term) → IsEither q (each_two xs) → IsEither q (each_two (xs ++ ys))
either_left q xs ys (inl i) = inl (append_two_left q xs ys i)
either_left q xs ys (inr i) = inr (append_two_left (q.1, q.0) xs ys i)

either_right : (q : Two) (xs ys : List Term) → IsEither q (each_two ys) → IsEither q (each_two (xs ++ ys))
either_right q xs ys (inl i) = inl (append_two_right q xs ys i)
either_right q xs ys (inr i) = inr (append_two_right (q.1, q.0) xs ys i)

covered_both : (x y z u : Facts) → AreCovered x z → AreCovered y u → AreCovered (both x y) (both z u)
covered_both x y z u a b = record {
  equal = λ q i. appended q x.equal y.equal z.equal u.equal (a.equal q) (b.equal q) i;
  differ = λ q i. appended q x.differ y.differ z.differ u.differ (a.differ q) (b.differ q) i;
  cells = λ t i. appended t x.cells y.cells z.cells u.cells (a.cells t) (b.cells t) i;
  twos = λ q i. elim (two_append q x.cells y.cells i) [
    | inl j ↦ either_left q z.cells u.cells (a.twos q j)
    | inr o ↦ elim o [
      | inl j ↦ inl (append_two_cross q.0 q.1 z.cells u.cells (a.cells q.0 j.0) (b.cells q.1 j.1))
      | inr j ↦ either_right q z.cells u.cells (b.twos q j)
    ]
  ];
}

fronted : {X : Type 0} (x : X) (us vs ws : List X) → IsMember x (us ++ (vs ++ ws)) → IsMember x (vs ++ (us ++ ws))
fronted x us vs ws i =
    elim (in_append x us (vs ++ ws) i) [
      | inl j ↦ in_right x vs (us ++ ws) (in_left x us ws j)
      | inr j ↦ elim (in_append x vs ws j) [
        | inl k ↦ in_left x vs (us ++ ws) k
        | inr k ↦ in_right x vs (us ++ ws) (in_right x us ws k)
      ]
    ]

fronted_twos : (q : Two) (us vs ws : List Term) → IsMember q (each_two (us ++ (vs ++ ws)))
    → IsEither q (each_two (vs ++ (us ++ ws)))
fronted_twos q us vs ws i =
    elim (two_append q us (vs ++ ws) i) [
      | inl j ↦ inl (append_two_right q vs (us ++ ws) (append_two_left q us ws j))
      | inr o ↦ elim o [
        | inl j ↦ elim (in_append q.1 vs ws j.1) [
          | inl k ↦ inr (append_two_cross q.1 q.0 vs (us ++ ws) k (in_left q.0 us ws j.0))
          | inr k ↦ inl (append_two_right q vs (us ++ ws) (append_two_cross q.0 q.1 us ws j.0 k))
        ]
        | inr j ↦ elim (two_append q vs ws j) [
          | inl k ↦ inl (append_two_left q vs (us ++ ws) k)
          | inr p ↦ elim p [
            | inl k ↦ inl (append_two_cross q.0 q.1 vs (us ++ ws) k.0 (in_right q.1 us ws k.1))
            | inr k ↦ inl (append_two_right q vs (us ++ ws) (append_two_right q us ws k))
          ]
        ]
      ]
    ]

covered_front : (x y z : Facts) → AreCovered (both x (both y z)) (both y (both x z))
covered_front x y z = record {
  equal = λ q i. fronted q x.equal y.equal z.equal i;
  differ = λ q i. fronted q x.differ y.differ z.differ i;
  cells = λ t i. fronted t x.cells y.cells z.cells i;
  twos = λ q i. fronted_twos q x.cells y.cells z.cells i;
}

pub alike_self : (x : Facts) → AreAlike x x
alike_self x = (covered_self x, covered_self x)

pub alike_then : (x y z : Facts) → AreAlike x y → AreAlike y z → AreAlike x z
alike_then x y z a b = (covered_then x y z a.0 b.0, covered_then z y x b.1 a.1)

-- the second part in another order
pub alike_second : (x y z : Facts) → AreAlike y z → AreAlike (both x y) (both x z)
alike_second x y z a = (covered_both x y x z (covered_self x) a.0, covered_both x z x y (covered_self x) a.1)

-- the first two parts the other way round
pub alike_front : (x y z : Facts) → AreAlike (both x (both y z)) (both y (both x z))
alike_front x y z = (covered_front x y z, covered_front y x z)

-- ---- what is covered

module _ (x y : Facts) (covered : AreCovered x y) where
  abbrev fx : Term → ℕ
  fx = class_of x.equal

  abbrev fy : Term → ℕ
  fy = class_of y.equal

  joined_too : (t u : Term) → fx t ≡ fx u → fy t ≡ fy u
  joined_too t u e = classes_least fy x.equal (at_each (λ q. fy q.0 ≡ fy q.1) x.equal
      (λ q i. each_at (λ q. fy q.0 ≡ fy q.1) y.equal q (classes_have y.equal) (covered.equal q i))) t u e

  in_differences : (q : Two) (qs : List Two) → IsEither q qs → (ds : List Two) → IsEither q (ds ++ qs)
  in_differences q qs (inl i) ds = inl (in_right q ds qs i)
  in_differences q qs (inr i) ds = inr (in_right {X = Two} (q.1, q.0) ds qs i)

  differ_too : (q : Two) → IsMember q (all_differ x) → IsEither q (all_differ y)
  differ_too q m =
      elim (in_append q x.differ (cell_differences x.cells) m) [
        | inl i ↦ inl (in_left q y.differ (cell_differences y.cells) (covered.differ q i))
        | inr i ↦ in_differences q (cell_differences y.cells)
            (elim (in_append q (against_nil x.cells) (each_two x.cells) i) [
              | inl j ↦
                  (let r = map_in (λ t. (t, Nil)) q x.cells j in
                  inl (in_left q (against_nil y.cells) (each_two y.cells)
                  (subst (λ z. IsMember z (against_nil y.cells)) r.2
                  (in_map (λ t. (t, Nil)) r.0 y.cells (covered.cells r.0 r.1)))))
              | inr j ↦ in_differences q (each_two y.cells) (covered.twos q j) (against_nil y.cells)
            ]) y.differ
      ]

  -- what covers is consistent only if what it covers is
  consistent_too : AreConsistent y → AreConsistent x
  consistent_too c = at_each (λ q. fx q.0 ≢ fx q.1) (all_differ x) (λ q m e.
      let D = λ (q : Two) (i : IsMember q (all_differ y)). each_at (λ q. fy q.0 ≢ fy q.1) (all_differ y) q c i in
      elim (differ_too q m) [
        | inl i ↦ D q i (joined_too q.0 q.1 e)
        | inr i ↦ D (q.1, q.0) i (sym (joined_too q.0 q.1 e))
      ])

  links_turned : (f : Term → ℕ) (q : Two) (t u : Term) → Links f q t u → Links f (q.1, q.0) t u
  links_turned f q t u (inl a) = inr (a.1, a.0)
  links_turned f q t u (inr a) = inl (a.1, a.0)

  module _ (at : ℕ → Term) where
    same_too : (i j : ℕ) → nat_eq (fx (at i)) (fx (at j)) ≡ true → nat_eq (fy (at i)) (fy (at j)) ≡ true
    same_too i j h = eq-eqb _ _ (joined_too (at i) (at j) (eqb-true _ _ h))

    between_too : (i j : ℕ) → list_any (is_between fx at i j) (all_differ x) ≡ true
        → list_any (is_between fy at i j) (all_differ y) ≡ true
    between_too i j h =
        let r = any_in (is_between fx at i j) (all_differ x) h in
        let l = links_to fx fy joined_too r.0 (at i) (at j) (between_links fx at i j r.0 r.2) in
        elim (differ_too r.0 r.1) [
          | inl m ↦ in_any (is_between fy at i j) (all_differ y) r.0 m (links_between fy at i j r.0 l)
          | inr m ↦ in_any (is_between fy at i j) (all_differ y) (r.0.1, r.0.0) m
              (links_between fy at i j (r.0.1, r.0.0) (links_turned fy r.0 (at i) (at j) l))
        ]

    cells_too : (i : ℕ) → list_any (is_in_class fx at i) x.cells ≡ true → list_any (is_in_class fy at i) y.cells ≡ true
    cells_too i h =
        let r = any_in (is_in_class fx at i) x.cells h in
        in_any (is_in_class fy at i) y.cells r.0 (covered.cells r.0 r.1)
        (eq-eqb _ _ (joined_too r.0 (at i) (eqb-true _ _ r.2)))

pub alike_consistent : (x y : Facts) → AreAlike x y → AreConsistent y → AreConsistent x
alike_consistent x y a = consistent_too x y a.0

pub alike_said : (k : ℕ) (at : ℕ → Term) (x y : Facts) → AreAlike x y → said k at x ≡ said k at y
alike_said k at x y a =
    let f = class_of x.equal in
    let g = class_of y.equal in
    let agree = λ (i j : ℕ). bool_same (nat_eq (f (at i)) (f (at j))) (nat_eq (g (at i)) (g (at j)))
    (same_too x y a.0 at i j) (same_too y x a.1 at i j) in
    let s = filter_same (λ q. nat_eq (f (at q.0)) (f (at q.1))) (λ q. nat_eq (g (at q.0)) (g (at q.1)))
    (pairs_below (suc k)) (λ q m. agree q.0 q.1) in
    let d = filter_same (λ q. list_any (is_between f at q.0 q.1) (all_differ x))
    (λ q. list_any (is_between g at q.0 q.1) (all_differ y)) (pairs_below (suc k))
    (λ q m. bool_same _ _ (between_too x y a.0 at q.0 q.1) (between_too y x a.1 at q.0 q.1)) in
    let least = λ (i : ℕ). any_same (λ j. is_in_class f at i (at j)) (λ j. is_in_class g at i (at j)) (upto i)
    (λ j m. agree j i) in
    let c = filter_same (λ i. is_least f at i && list_any (is_in_class f at i) x.cells)
    (λ i. is_least g at i && list_any (is_in_class g at i) y.cells) (upto (suc k)) (λ i m.
    let n = least i in
    let b = bool_same (list_any (is_in_class f at i) x.cells) (list_any (is_in_class g at i) y.cells)
    (cells_too x y a.0 at i) (cells_too y x a.1 at i) in
    λ z. not (n z) && b z) in
    λ z. record { same = s z; differ = d z; cells = c z }
