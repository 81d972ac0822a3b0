-- Parts of a heap and masks.
use Rattle.std.proofs.Common.{◌≡◌, ◌≢◌, ℕ, zero, suc, ◌+◌, ◌-◌, ◌*◌, ◌^◌, ◌<◌, ◌≤◌, List, [], ◌∷◌, length, Bool, true}
use Rattle.std.proofs.Common.{false, not, cond, Option, Some, None, refl, sym, ap, ◌∙◌, subst, inl, inr, arith}
use Rattle.std.specs.Prelude.{nat_eq, ◌&&◌, ◌||◌, slice_index}
use Rattle.std.proofs.lemmas.Bool.{eqb-true, eqb-false, eq-eqb, cases_Bool, cases_lt, ne_eqb}
use Rattle.std.proofs.Math.Nat.{pow-suc}
use Rattle.std.specs.Int.{bit_at}
use Rattle.std.specs.Int.Bits.{bit_or}
use Rattle.std.proofs.lemmas.Nat.Bits.{bit_at-lt, bit_at_cat_low, bit_at_cat_high, same_from_bits, bit_at_above}
use Rattle.std.proofs.lemmas.Nat.Bits.{bit_at-pow_same, bit_at-pow_other}
use Rattle.std.specs.Option.{is_some}
use Rattle.std.specs.Ordering.{nat_cmp, eq_by_cmp}
use Rattle.std.specs.Cmp.{nat_cmp_total}
use Rattle.std.specs.FinMap.{get-retain_keys, retain_keys, get-empty, nat_cmp-IsAntisymmetric}
use Rattle.heap_formula.specs.Cells.{Cells, cell_at, no_cells, one_cell, Joins, IsPart, IsUnion}
use Rattle.heap_formula.proofs.Unions.{same_cells}
use Rattle.std.proofs.Math.Bool.{and-false, and-true, or-false, true-and}
use Rattle.std.specs.Cmp.{eq_by_cmp_equiv}
use Rattle.model_check.specs.Constructive.{Inside}
use Rattle.cyc_basics.specs.Words.{IsMember}
use Rattle.model_check.specs.MaskParts.{place, part_of, from_bits, stands, mask_of, Covers}
use Rattle.cyc_basics.specs.Bits.{is_one}
use Rattle.model_check.specs.Ground.{Apart}
use Rattle.cyc_basics.proofs.Bits.{one_and, one_or, one_zero}
use Rattle.cyc_basics.proofs.Options.{option_cases}
use Rattle.heap_formula.proofs.Insertions.{same_address}
use Rattle.heap_formula.proofs.HeapLaws.{one_cell_at}

-- ---- bits as tests

bit_same : (x y : ℕ) → x < 2 → y < 2 → nat_eq x 1 ≡ nat_eq y 1 → x ≡ y
bit_same zero zero h k e = refl
bit_same zero (suc zero) h k e = absurd (let b : false ≡ true = e in cc)
bit_same (suc zero) zero h k e = absurd (let b : true ≡ false = e in cc)
bit_same (suc zero) (suc zero) h k e = refl
bit_same (suc (suc x)) y h k e = absurd (omega arith)
bit_same x (suc (suc y)) h k e = absurd (omega arith)

pub same_masks : (a b : ℕ) → ((i : ℕ) → is_one a i ≡ is_one b i) → a ≡ b
same_masks a b h = same_from_bits a b (λ i. bit_same (bit_at a i) (bit_at b i) (bit_at-lt a i) (bit_at-lt b i) (h i))

pub has_pow : (k i : ℕ) → is_one (2 ^ k) i ≡ nat_eq i k
has_pow k i = elim (cases_Bool (nat_eq i k)) [
  | inl yes' ↦ let e : i ≡ k = eqb-true i k yes' in
      ap (λ j. nat_eq (bit_at (2 ^ k) j) 1) e ∙ ap (λ x. nat_eq x 1) (bit_at-pow_same k) ∙ sym yes'
  | inr no' ↦ ap (λ x. nat_eq x 1) (bit_at-pow_other k i (eqb-false i k no')) ∙ sym no'
]

-- ---- a number of given bits

cond_lt : (c : Bool) (k r : ℕ) → r < 2 ^ k → cond c 1 0 * 2 ^ k + r < 2 ^ suc k
cond_lt true k r h = let e : 2 ^ suc k ≡ 2 ^ k * 2 = pow-suc 2 k in omega arith
cond_lt false k r h = let e : 2 ^ suc k ≡ 2 ^ k * 2 = pow-suc 2 k in omega arith

pub from_bits-lt : (b : ℕ → Bool) (k : ℕ) → from_bits b k < 2 ^ k
from_bits-lt b zero = omega arith
from_bits-lt b (suc k) = cond_lt (b k) k (from_bits b k) (from_bits-lt b k)

cond_bit : (c : Bool) → nat_eq (bit_at (cond c 1 0) 0) 1 ≡ c
cond_bit true = refl
cond_bit false = refl

pub has_from_bits : (b : ℕ → Bool) (k i : ℕ) → i < k → is_one (from_bits b k) i ≡ b i
has_from_bits b zero i h = absurd (omega arith)
has_from_bits b (suc k) i h = elim (cases_Bool (nat_eq i k)) [
  | inl yes' ↦
      let e : i ≡ k = eqb-true i k yes' in
      let z : i - k ≡ 0 = omega arith in
      ap (λ x. nat_eq x 1) (bit_at_cat_high (cond (b k) 1 0) k (from_bits b k) i (from_bits-lt b k) (omega arith))
      ∙ ap (λ j. nat_eq (bit_at (cond (b k) 1 0) j) 1) z ∙ cond_bit (b k) ∙ ap b (sym e)
  | inr no' ↦
      let n : i ≢ k = eqb-false i k no' in
      let l : i < k = omega arith in
      ap (λ x. nat_eq x 1) (bit_at_cat_low (cond (b k) 1 0) k (from_bits b k) i l) ∙ has_from_bits b k i l
]

pub no_from_bits : (b : ℕ → Bool) (k i : ℕ) → k ≤ i → is_one (from_bits b k) i ≡ false
no_from_bits b k i h = ap (λ x. nat_eq x 1) (bit_at_above (from_bits b k) k i (from_bits-lt b k) h)

-- ---- parts and masks

at_kept : (keep : ℕ → Bool) (h : Cells) (a : ℕ) → cell_at (retain_keys h keep) a ≡ cond (keep a) (cell_at h a) None
at_kept keep h a = get-retain_keys h keep a (λ x t. ap keep (sym (nat_cmp-IsAntisymmetric a x t)))

pub at_part_of : (addresses : List ℕ) (h : Cells) (m a : ℕ)
    → cell_at (part_of addresses h m) a ≡ cond (is_one m (place addresses a)) (cell_at h a) None
at_part_of addresses h m a = at_kept (λ k. is_one m (place addresses k)) h a

joins_bits : {X : Type 0} (b c : Bool) (x : Option X) → (b && c) ≡ false
    → Joins (cond b x None) (cond c x None) (cond (b || c) x None)
joins_bits false false x h = refl
joins_bits false true x h = refl
joins_bits true false None h = refl
joins_bits true false (Some x) h = refl
joins_bits true true x h = absurd (let t : true ≡ false = h in cc)

pub part_union : (addresses : List ℕ) (h : Cells) (f r m : ℕ) → Apart f r m
    → IsUnion (part_of addresses h f) (part_of addresses h r) (part_of addresses h m)
part_union addresses h f r m u = record {
  joins = λ a.
      let i = place addresses a in
      let none : (is_one f i && is_one r i) ≡ false = sym (one_and f r i) ∙ ap (λ x. is_one x i) u.apart ∙ one_zero i in
      let some : is_one m i ≡ (is_one f i || is_one r i) = ap (λ x. is_one x i) u.whole ∙ one_or f r i in
      let j : Joins (cond (is_one f i) (cell_at h a) None) (cond (is_one r i) (cell_at h a) None)
      (cond (is_one m i) (cell_at h a) None) = subst (λ d.
      Joins (cond (is_one f i) (cell_at h a) None) (cond (is_one r i) (cell_at h a) None)
      (cond d (cell_at h a) None)) (sym some) (joins_bits (is_one f i) (is_one r i) (cell_at h a) none) in
      rw (at_part_of addresses h f a, at_part_of addresses h r a, at_part_of addresses h m a) j;
}

joins_kept : {X : Type 0} (b : Bool) (x : Option X) → Joins (cond b x None) (cond (not b) x None) x
joins_kept true None = refl
joins_kept true (Some x) = refl
joins_kept false x = refl

-- the part at some places is a part: the others are the rest
pub part_is_part : (addresses : List ℕ) (h : Cells) (m : ℕ) → IsPart (part_of addresses h m) h
part_is_part addresses h m = (
  retain_keys h (λ a. not (is_one m (place addresses a))),
  record {
    joins = λ a.
        let kept = is_one m (place addresses a) in
        rw (at_part_of addresses h m a, at_kept (λ k. not (is_one m (place addresses k))) h a)
        (joins_kept kept (cell_at h a));
  },
)

-- ---- addresses and places

pub place_in : (ns : List ℕ) (a : ℕ) → IsMember a ns → (place ns a < length ns) × (slice_index ns (place ns a) ≡ a)
place_in [] a m = absurd m
place_in (x ∷ xs) a m =
    elim (cases_Bool (nat_eq x a)) [
      | inl yes' ↦ rw yes' (omega arith, eqb-true x a yes')
      | inr no' ↦
          elim m [
            | inl e ↦ absurd (eqb-false x a no' e)
            | inr m' ↦ let r = place_in xs a m' in rw no' (omega arith, r.1)
          ]
    ]

-- ---- the mask of a part

pub has_mask : (ns : List ℕ) (g : Cells) (i : ℕ) → i < length ns → is_one (mask_of ns g) i ≡ stands ns g i
has_mask ns g i h = has_from_bits (stands ns g) (length ns) i h

pub no_mask : (ns : List ℕ) (g : Cells) (i : ℕ) → length ns ≤ i → is_one (mask_of ns g) i ≡ false
no_mask ns g i h = no_from_bits (stands ns g) (length ns) i h

joined_some : {X : Type 0} (p : Bool) (x y r : Option X) → Joins x y r
    → (((p && is_some x) && (p && is_some y)) ≡ false) × ((p && is_some r) ≡ ((p && is_some x) || (p && is_some y)))
joined_some false x y r j = (refl, refl)
joined_some true None y r j = (refl, ap is_some j)
joined_some true (Some x) None r j = (refl, ap is_some j)
joined_some true (Some x) (Some y) r j = absurd j

module _ (ns : List ℕ) (l r h : Cells) (u : IsUnion l r h) where
  mask_bits : (i : ℕ) → ((is_one (mask_of ns l) i && is_one (mask_of ns r) i) ≡ false)
      × (is_one (mask_of ns h) i ≡ (is_one (mask_of ns l) i || is_one (mask_of ns r) i))
  mask_bits i = elim (cases_lt i (length ns)) [
    | inl lt ↦
        let a = slice_index ns i in
        rw (has_mask ns l i lt, has_mask ns r i lt, has_mask ns h i lt)
        (joined_some (nat_eq (place ns a) i) (cell_at l a) (cell_at r a) (cell_at h a) (u.joins a))
    | inr le ↦ rw (no_mask ns l i le, no_mask ns r i le, no_mask ns h i le) (refl, refl)
  ]

  pub mask_union : Apart (mask_of ns l) (mask_of ns r) (mask_of ns h)
  mask_union = record {
    apart = same_masks _ _ (λ i. one_and (mask_of ns l) (mask_of ns r) i ∙ (mask_bits i).0 ∙ sym (one_zero i));
    whole = same_masks _ _ (λ i. (mask_bits i).1 ∙ sym (one_or (mask_of ns l) (mask_of ns r) i));
  }

both_none : {X : Type 0} (b : Bool) → ◌≡◌ {A = Option X} (cond b None None) None
both_none true = refl
both_none false = refl

pub part_mask : (ns : List ℕ) (g h : Cells) → Covers ns h → Inside g h → part_of ns h (mask_of ns g) ≡ g
part_mask ns g h c w = same_cells _ _ (λ a. at_part_of ns h (mask_of ns g) a ∙ at_mask a)
  where
    at_mask : (a : ℕ) → cond (is_one (mask_of ns g) (place ns a)) (cell_at h a) None ≡ cell_at g a
    at_mask a = elim (option_cases (cell_at h a)) [
      | inl none ↦
          let out : cell_at g a ≡ None = elim (option_cases (cell_at g a))
          [ inl e ↦ e | inr (v, e) ↦ let s = w.same a v e in absurd (let b : None ≡ Some v = sym none ∙ s in cc) ]
          in
          rw none (both_none (is_one (mask_of ns g) (place ns a)) ∙ sym out)
      | inr (v, some) ↦
          let p = place_in ns a (c.listed a v some) in
          let b : is_one (mask_of ns g) (place ns a) ≡ is_some (cell_at g a) = has_mask ns g (place ns a) p.0
          ∙ ap (λ q. nat_eq (place ns q) (place ns a) && is_some (cell_at g q)) p.1
          ∙ ap (λ t. t && is_some (cell_at g a)) (eq-eqb (place ns a) (place ns a) refl)
          ∙ true-and (is_some (cell_at g a)) in
          rw b (elim (option_cases (cell_at g a)) [ inl e ↦ rw e refl | inr (x, e) ↦ rw e (let s = w.same a x e in s) ])
    ]

pub one_inside : (h : Cells) (a : ℕ) (vs : List ℕ) → cell_at h a ≡ Some vs → Inside (one_cell a vs) h
one_inside h a vs e = record { same = λ q us t. found (eq_by_cmp nat_cmp q a) q us refl (sym (one_cell_at a vs q) ∙ t) }
  where
    found : (b : Bool) (q : ℕ) (us : List ℕ) → eq_by_cmp nat_cmp q a ≡ b → cond b (Some vs) None ≡ Some us
        → cell_at h q ≡ Some us
    found true q us t f = ap (cell_at h) (same_address q a t) ∙ e ∙ f
    found false q us t f = absurd (let n : None ≡ Some us = f in cc)

pub turned_eq : (m n : ℕ) → nat_eq m n ≡ nat_eq n m
turned_eq m n = elim (cases_Bool (nat_eq m n)) [
  | inl yes' ↦ let e : n ≡ m = sym (eqb-true m n yes') in yes' ∙ sym (eq-eqb n m e)
  | inr no' ↦ no' ∙ sym (ne_eqb n m (λ e. eqb-false m n no' (sym e)))
]

-- the mask of one cell is its bit
pub mask_one : (ns : List ℕ) (a : ℕ) (vs : List ℕ) → IsMember a ns → mask_of ns (one_cell a vs) ≡ 2 ^ place ns a
mask_one ns a vs m = same_masks _ _ (λ i. bits i ∙ sym (has_pow (place ns a) i))
  where
    standing : (i : ℕ) → stands ns (one_cell a vs) i ≡ nat_eq i (place ns a)
    standing i =
        let q = slice_index ns i in
        let at_q = one_cell_at a vs q in
        elim (cases_Bool (eq_by_cmp nat_cmp q a)) [
          | inl yes' ↦
              let s : is_some (cell_at (one_cell a vs) q)
              ≡ true = ap is_some (at_q ∙ ap (λ b. cond b (Some vs) None) yes') in
              ap (λ b. nat_eq (place ns q) i && b) s ∙ and-true (nat_eq (place ns q) i)
              ∙ ap (λ x. nat_eq (place ns x) i) (same_address q a yes') ∙ turned_eq (place ns a) i
          | inr no' ↦
              let s : is_some (cell_at (one_cell a vs) q)
              ≡ false = ap is_some (at_q ∙ ap (λ b. cond b (Some vs) None) no') in
              ap (λ b. nat_eq (place ns q) i && b) s ∙ and-false (nat_eq (place ns q) i)
              ∙ sym (ne_eqb i (place ns a) (λ e.
              let same : q ≡ a = ap (slice_index ns) e ∙ (place_in ns a m).1 in
              let yes' : eq_by_cmp nat_cmp q a ≡ true = ap (λ x. eq_by_cmp nat_cmp x a) same
              ∙ (eq_by_cmp_equiv nat_cmp_total).refl a in
              let bad : true ≡ false = sym yes' ∙ no' in cc))
        ]

    bits : (i : ℕ) → is_one (mask_of ns (one_cell a vs)) i ≡ nat_eq i (place ns a)
    bits i = elim (cases_lt i (length ns)) [
      | inl lt ↦ has_mask ns (one_cell a vs) i lt ∙ standing i
      | inr le ↦ let p = place_in ns a m in no_mask ns (one_cell a vs) i le
          ∙ sym (ne_eqb i (place ns a) (λ e. let l : place ns a < length ns = p.0 in omega arith))
    ]

-- the heap's part at the bit of an address is one cell
pub part_one : (ns : List ℕ) (h : Cells) (a : ℕ) (vs : List ℕ) → Covers ns h → cell_at h a ≡ Some vs
    → part_of ns h (2 ^ place ns a) ≡ one_cell a vs
part_one ns h a vs c e =
    ap (part_of ns h) (sym (mask_one ns a vs (c.listed a vs e)))
    ∙ part_mask ns (one_cell a vs) h c (one_inside h a vs e)

pub part_zero : (ns : List ℕ) (h : Cells) → part_of ns h 0 ≡ no_cells
part_zero ns h = same_cells _ _ (λ a. at_part_of ns h 0 a ∙ ap (λ b. cond b (cell_at h a) None) (one_zero (place ns a))
    ∙ sym (get-empty nat_cmp a))

pub mask_zero : (ns : List ℕ) → mask_of ns no_cells ≡ 0
mask_zero ns = same_masks _ _ (λ i. bits i ∙ sym (one_zero i))
  where
    bits : (i : ℕ) → is_one (mask_of ns no_cells) i ≡ false
    bits i = elim (cases_lt i (length ns)) [
      | inl lt ↦ has_mask ns no_cells i lt ∙ ap (λ o. nat_eq (place ns (slice_index ns i)) i && is_some o)
          (get-empty nat_cmp (slice_index ns i)) ∙ and-false (nat_eq (place ns (slice_index ns i)) i)
      | inr le ↦ no_mask ns no_cells i le
    ]

-- ---- the mask of the whole heap, a place at a time

pub more_bits : (b : ℕ → Bool) (k : ℕ) → b k ≡ true → bit_or (from_bits b k) (2 ^ k) ≡ from_bits b (k + 1)
more_bits b k t = same_masks _ _ (λ i. one_or (from_bits b k) (2 ^ k) i
    ∙ ap (λ x. is_one (from_bits b k) i || x) (has_pow k i) ∙ bits i)
  where
    bits : (i : ℕ) → (is_one (from_bits b k) i || nat_eq i k) ≡ is_one (from_bits b (k + 1)) i
    bits i = elim (cases_lt i k) [
      | inl l ↦ rw (has_from_bits b k i l, ne_eqb i k (λ e. omega arith))
          (or-false (b i) ∙ sym (has_from_bits b (k + 1) i (omega arith)))
      | inr g ↦ elim (cases_lt k i) [
        | inl m ↦ rw (no_from_bits b k i g, ne_eqb i k (λ e. omega arith))
            (sym (no_from_bits b (k + 1) i (omega arith)))
        | inr n ↦ let e : i ≡ k = omega arith in rw (no_from_bits b k i g, eq-eqb i k e)
            (sym (has_from_bits b (k + 1) i (omega arith) ∙ ap b e ∙ t))
      ]
    ]

pub same_bits : (b : ℕ → Bool) (k : ℕ) → b k ≡ false → from_bits b k ≡ from_bits b (k + 1)
same_bits b k t = same_masks _ _ bits
  where
    bits : (i : ℕ) → is_one (from_bits b k) i ≡ is_one (from_bits b (k + 1)) i
    bits i = elim (cases_lt i k) [
      | inl l ↦ has_from_bits b k i l ∙ sym (has_from_bits b (k + 1) i (omega arith))
      | inr g ↦ elim (cases_lt k i) [
        | inl m ↦ no_from_bits b k i g ∙ sym (no_from_bits b (k + 1) i (omega arith))
        | inr n ↦ let e : i ≡ k = omega arith in no_from_bits b k i g
            ∙ sym (has_from_bits b (k + 1) i (omega arith) ∙ ap b e ∙ t)
      ]
    ]
