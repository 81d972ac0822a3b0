-- Values for the classes of a combination, from values of the parameters that respect its projection: the other classes
-- get values of their own, past a bound.
use Rattle.std.proofs.Common.{◌≡◌, ◌≢◌, ℕ, zero, suc, ◌+◌, ◌<◌, ◌≤◌, ◌⊎◌, inl, inr, List, map, arith, true, cond, ◌&&◌}
use Rattle.std.proofs.Common.{sym, refl, ap, ◌∙◌, subst}
use Rattle.std.specs.Prelude.{nat_eq}
use Rattle.std.proofs.lemmas.Bool.{cases_Bool, cases_lt, or_left, or_right, and_from, eqb-true, eq-eqb}
use Rattle.std.proofs.lemmas.Bool.Decides.{eqb_tells}
use Rattle.std.specs.List.{list_any}
use Rattle.heap_formula.specs.declared.terms.Term.{Term}
use Rattle.heap_formula.specs.Words.{Each}
use Rattle.pair_family.specs.Combination.{Two, upto, pairs_below, is_between, is_in_class, is_least, kept}
use Rattle.pair_family.proofs.Lists.{each_at, in_filter, any_in, in_any, in_map, in_upto, upto_in, in_pairs}
use Rattle.cyc_basics.specs.Words.{IsMember}

module _ (k : ℕ) (at : ℕ → Term) (f : Term → ℕ) (ds : List Two) (cs : List Term) where
  -- some number of a class is its least
  least_of : (n i : ℕ) → i < n → (c : ℕ) × (c ≤ i) × (f (at c) ≡ f (at i)) × (is_least f at c ≡ true)
  least_of zero i l = absurd (omega arith)
  least_of (suc n) i l =
      elim (cases_Bool (list_any (λ j. is_in_class f at i (at j)) (upto i))) [
        | inl y ↦
            (let o = any_in (λ j. is_in_class f at i (at j)) (upto i) y in
            let less = upto_in i o.0 o.1 in
            let r = least_of n o.0 (omega arith) in
            (r.0, omega arith, r.2 ∙ eqb-true _ _ o.2, r.3))
        | inr n ↦ (i, omega arith, refl, rw n refl)
      ]

  pub cell_kept : (t : Term) (i : ℕ) → IsMember t cs → i ≤ k → f t ≡ f (at i)
      → (c : ℕ) × (IsMember c (kept k at f ds cs).cells) × (c ≤ k) × (f (at c) ≡ f t)
  cell_kept t i m l e =
      let c = least_of (suc i) i (omega arith) in
      let same : f t ≡ f (at c.0) = e ∙ sym c.2 in (
        c.0,
        in_filter (λ i. is_least f at i && list_any (is_in_class f at i) cs) c.0 (upto (suc k))
            (in_upto (suc k) c.0 (omega arith)) (and_from _ _ c.3
            (in_any (is_in_class f at c.0) cs t m (eq-eqb _ _ same))),
        omega arith,
        sym same,
      )

  module _ (val : ℕ → ℕ) (S : Each (λ q. val q.0 ≡ val q.1) (kept k at f ds cs).same) where
    same_below : (i j : ℕ) → i < j → j ≤ k → f (at i) ≡ f (at j) → val i ≡ val j
    same_below i j l m e =
        each_at (λ q. val q.0 ≡ val q.1) (kept k at f ds cs).same (i, j) S
        (in_filter (λ q. nat_eq (f (at q.0)) (f (at q.1))) (i, j) (pairs_below (suc k))
        (in_pairs (suc k) i j l (omega arith)) (eq-eqb _ _ e))

    pub same_kept : (i j : ℕ) → i ≤ k → j ≤ k → f (at i) ≡ f (at j) → val i ≡ val j
    same_kept i j l m e =
        elim (cases_lt i j) [
          | inl a ↦ same_below i j a m e
          | inr b ↦ elim (cases_lt j i) [
            | inl a ↦ sym (same_below j i a l (sym e))
            | inr c ↦ (let s : i ≡ j = omega arith in ap val s)
          ]
        ]

    differ_below : Each (λ q. val q.0 ≢ val q.1) (kept k at f ds cs).differ → (i j : ℕ) (q : Two) → i < j → j ≤ k
        → IsMember q ds → is_between f at i j q ≡ true → val i ≢ val j
    differ_below A i j q l m d t =
        each_at (λ q. val q.0 ≢ val q.1) (kept k at f ds cs).differ (i, j) A
        (in_filter (λ q. list_any (is_between f at q.0 q.1) ds) (i, j) (pairs_below (suc k))
        (in_pairs (suc k) i j l (omega arith)) (in_any (is_between f at i j) ds q d t))

    pub differ_kept : Each (λ q. val q.0 ≢ val q.1) (kept k at f ds cs).differ → (i j : ℕ) (q : Two) → i ≤ k → j ≤ k
        → IsMember q ds → f q.0 ≢ f q.1 → f q.0 ≡ f (at i) → f q.1 ≡ f (at j) → val i ≢ val j
    differ_kept A i j q l m d n a b =
        elim (cases_lt i j) [
          | inl x ↦ differ_below A i j q x m d (or_left _ _ (and_from _ _ (eq-eqb _ _ a) (eq-eqb _ _ b)))
          | inr y ↦ elim (cases_lt j i) [
            | inl x ↦ λ e. differ_below A j i q x l d (or_right _ _ (and_from _ _ (eq-eqb _ _ a) (eq-eqb _ _ b)))
                (sym e)
            | inr z ↦ (let s : i ≡ j = omega arith in absurd (n (a ∙ ap (λ x. f (at x)) s ∙ sym b)))
          ]
        ]

    module _ (w : ℕ) (below : (i : ℕ) → i ≤ k → val i < w) where
      -- the value of a class: that of a parameter in it, else one past w
      assigned : ℕ → ℕ → ℕ
      assigned zero l = cond (nat_eq l (f (at 0))) (val 0) (w + l)
      assigned (suc j) l = cond (nat_eq l (f (at (suc j)))) (val (suc j)) (assigned j l)

      assigned_cases : (j l : ℕ) → ((i : ℕ) × (i ≤ j) × (l ≡ f (at i)) × (assigned j l ≡ val i))
          ⊎ ((assigned j l ≡ w + l) × ((i : ℕ) → i ≤ j → l ≢ f (at i)))
      unfolding assigned
      assigned_cases zero l =
          elim (eqb_tells l (f (at 0))) [
            | inl y ↦ inl (0, omega arith, y.1, rw y.0 refl)
            | inr n ↦ inr (rw n.0 refl, λ i le e. n.1 (let z : i ≡ 0 = omega arith in e ∙ ap (λ x. f (at x)) z))
          ]
      assigned_cases (suc j) l =
          elim (eqb_tells l (f (at (suc j)))) [
            | inl y ↦ inl (suc j, omega arith, y.1, rw y.0 refl)
            | inr n ↦ elim (assigned_cases j l) [
              | inl a ↦ inl (a.0, omega arith, a.2, rw n.0 a.3)
              | inr b ↦ inr (
                rw n.0 b.0,
                λ i le e. elim (cases_lt i (suc j)) [
                  | inl x ↦ b.1 i (omega arith) e
                  | inr y ↦ n.1 (let z : i ≡ suc j = omega arith in e ∙ ap (λ x. f (at x)) z)
                ],
              )
            ]
          ]

      pub worth : Term → ℕ
      worth t = assigned k (f t)

      -- a term in the class of a kept one, or a value of its class's own
      pub worth_cases : (t : Term) → ((i : ℕ) × (i ≤ k) × (f t ≡ f (at i)) × (worth t ≡ val i)) ⊎ (worth t ≡ w + f t)
      unfolding worth
      worth_cases t = elim (assigned_cases k (f t)) [ inl a ↦ inl a | inr b ↦ inr b.0 ]

      pub worth_same : (t u : Term) → f t ≡ f u → worth t ≡ worth u
      unfolding worth
      worth_same t u e = ap (assigned k) e

      pub worth_kept : (i : ℕ) → i ≤ k → worth (at i) ≡ val i
      unfolding worth
      worth_kept i l =
          elim (assigned_cases k (f (at i))) [
            | inl a ↦ a.3 ∙ sym (same_kept i a.0 l a.1 a.2)
            | inr b ↦ absurd (b.1 i l refl)
          ]

      pub worth_apart : Each (λ q. val q.0 ≢ val q.1) (kept k at f ds cs).differ → (q : Two) → IsMember q ds
          → f q.0 ≢ f q.1 → worth q.0 ≢ worth q.1
      unfolding worth
      worth_apart A q d n e =
          elim (assigned_cases k (f q.0)) [
            | inl a ↦ elim (assigned_cases k (f q.1)) [
              | inl b ↦ differ_kept A a.0 b.0 q a.1 b.1 d n a.2 b.2 (sym a.3 ∙ e ∙ b.3)
              | inr b ↦ (let s : val a.0 ≡ w + f q.1 = sym a.3 ∙ e ∙ b.0 in let l = below a.0 a.1 in omega arith)
            ]
            | inr a ↦ elim (assigned_cases k (f q.1)) [
              | inl b ↦ (let s : w + f q.0 ≡ val b.0 = sym a.0 ∙ e ∙ b.3 in let l = below b.0 b.1 in omega arith)
              | inr b ↦ n (let s : w + f q.0 ≡ w + f q.1 = sym a.0 ∙ e ∙ b.0 in omega arith)
            ]
          ]

      pub worth_cell : (t : Term) → IsMember t cs → IsMember (worth t) (map val (kept k at f ds cs).cells)
          ⊎ (w ≤ worth t)
      unfolding worth
      worth_cell t m =
          elim (assigned_cases k (f t)) [
            | inl a ↦
                (let c = cell_kept t a.0 m a.1 a.2 in
                let s : val c.0 ≡ assigned k (f t) = same_kept c.0 a.0 c.2 a.1 (c.3 ∙ a.2) ∙ sym a.3 in
                inl (subst (λ x. IsMember x (map val (kept k at f ds cs).cells)) s
                (in_map val c.0 (kept k at f ds cs).cells c.1)))
            | inr b ↦ inr (let s = b.0 in omega arith)
          ]
