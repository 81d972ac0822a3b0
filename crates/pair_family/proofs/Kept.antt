-- What a projection keeps.
use Rattle.std.proofs.Common.{◌≡◌, ◌≢◌, ℕ, suc, ◌<◌, ◌⊎◌, inl, inr, List, true, false, ◌&&◌, sym, refl, ap, ◌∙◌}
use Rattle.std.specs.Prelude.{nat_eq}
use Rattle.std.proofs.lemmas.Bool.{or_cases, and_parts, both_ways, eqb-true, eq-eqb}
use Rattle.std.specs.List.{list_any}
use Rattle.heap_formula.specs.declared.terms.Term.{Term}
use Rattle.pair_family.specs.Combination.{Two, upto, pairs_below, each_two, is_between, is_in_class, is_least, kept}
use Rattle.pair_family.proofs.Lists.{filter_in, any_in, in_any, in_upto}
use Rattle.cyc_basics.specs.Words.{IsMember}
use Rattle.pair_family.proofs.Two.{two_in, in_two, two_filter, two_upto}

module _ (k : ℕ) (at : ℕ → Term) (f : Term → ℕ) (ds : List Two) (cs : List Term) where
  -- an address for each cell that is kept
  pub cell_class : (c : ℕ) → IsMember c (kept k at f ds cs).cells
      → (t : Term) × IsMember t cs × (f t ≡ f (at c)) × (is_least f at c ≡ true)
  cell_class c m =
      let r = filter_in (λ i. is_least f at i && list_any (is_in_class f at i) cs) c (upto (suc k)) m in
      let p = and_parts _ _ r.1 in
      let o = any_in (is_in_class f at c) cs p.1 in
      (o.0, o.1, eqb-true _ _ o.2, p.0)

  not_least : (i j : ℕ) → i < j → f (at i) ≡ f (at j) → is_least f at j ≡ true → ⊥
  not_least i j l e h =
      let found = in_any (λ n. is_in_class f at j (at n)) (upto j) i (in_upto j i l) (eq-eqb _ _ e) in
      let h' : false ≡ true = rw found at h in both_ways false refl h'

  -- each two cells that are kept come from two addresses
  pub cells_two : (q : ℕ × ℕ) → IsMember q (each_two (kept k at f ds cs).cells)
      → (r : Two) × (IsMember r (each_two cs)) × (((f r.0 ≡ f (at q.0)) × (f r.1 ≡ f (at q.1)))
      ⊎ ((f r.0 ≡ f (at q.1)) × (f r.1 ≡ f (at q.0))))
  cells_two q m =
      let both = two_in q (kept k at f ds cs).cells m in
      let less = two_upto (suc k) q (two_filter (λ i. is_least f at i && list_any (is_in_class f at i) cs) q
      (upto (suc k)) m) in
      let a = cell_class q.0 both.0 in
      let b = cell_class q.1 both.1 in
      let two : f a.0 ≢ f b.0 = λ e. not_least q.0 q.1 less (sym a.2 ∙ e ∙ b.2) b.3 in
      elim (in_two a.0 b.0 cs a.1 b.1) [
        | inl e ↦ absurd (two (ap f e))
        | inr o ↦ elim o [
          | inl x ↦ ((a.0, b.0), x, inl (a.2, b.2))
          | inr x ↦ ((b.0, a.0), x, inr (b.2, a.2))
        ]
      ]

  -- ---- what is kept is so

  module _ (v : Term → ℕ) (val : ℕ → ℕ) (is : (i : ℕ) → v (at i) ≡ val i) (E : (t u : Term) → f t ≡ f u → v t ≡ v u)
      (D : (q : Two) → IsMember q ds → v q.0 ≢ v q.1) (C : (q : Two) → IsMember q (each_two cs) → v q.0 ≢ v q.1) where
    apart_at : (i j : ℕ) (q : Two) → (v q.0 ≢ v q.1) → f q.0 ≡ f (at i) → f q.1 ≡ f (at j) → val i ≢ val j
    apart_at i j q d a b e = d (E q.0 (at i) a ∙ is i ∙ e ∙ sym (is j) ∙ sym (E q.1 (at j) b))

    pub kept_same : (q : ℕ × ℕ) → IsMember q (kept k at f ds cs).same → val q.0 ≡ val q.1
    kept_same q m =
        let r = filter_in (λ q. nat_eq (f (at q.0)) (f (at q.1))) q (pairs_below (suc k)) m in
        sym (is q.0) ∙ E (at q.0) (at q.1) (eqb-true _ _ r.1) ∙ is q.1

    pub kept_differ : (q : ℕ × ℕ) → IsMember q (kept k at f ds cs).differ → val q.0 ≢ val q.1
    kept_differ q m =
        let r = filter_in (λ q. list_any (is_between f at q.0 q.1) ds) q (pairs_below (suc k)) m in
        let o = any_in (is_between f at q.0 q.1) ds r.1 in
        elim (or_cases _ _ o.2) [
          | inl a ↦ (let p = and_parts _ _ a in apart_at q.0 q.1 o.0 (D o.0 o.1) (eqb-true _ _ p.0) (eqb-true _ _ p.1))
          | inr a ↦ (let p = and_parts _ _ a in λ e. apart_at q.1 q.0 o.0 (D o.0 o.1) (eqb-true _ _ p.0)
              (eqb-true _ _ p.1) (sym e))
        ]

    pub kept_cell : (c : ℕ) → IsMember c (kept k at f ds cs).cells → (t : Term) × IsMember t cs × (v t ≡ val c)
    kept_cell c m = let r = cell_class c m in (r.0, r.1, E r.0 (at c) r.2 ∙ is c)

    pub kept_cells_apart : (q : ℕ × ℕ) → IsMember q (each_two (kept k at f ds cs).cells) → val q.0 ≢ val q.1
    kept_cells_apart q m =
        let r = cells_two q m in
        elim r.2 [
          | inl o ↦ apart_at q.0 q.1 r.0 (C r.0 r.1) o.0 o.1
          | inr o ↦ λ e. apart_at q.1 q.0 r.0 (C r.0 r.1) o.0 o.1 (sym e)
        ]
