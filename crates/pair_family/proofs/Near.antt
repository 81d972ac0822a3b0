-- Differences as masks: a turn of the loop over them, and of the loop over a row.
use Rattle.std.proofs.Common.{◌≡◌, ℕ, zero, suc, ◌+◌, ◌<◌, ◌^◌, ◌*◌, ◌%◌, List, [], ◌∷◌, ◌++◌, Bool, true, false, ◌&&◌}
use Rattle.std.proofs.Common.{◌||◌, nat_eq, length, get_or, set, replicate, drop, filter, bit_or, refl, sym, ap, ◌∙◌}
use Rattle.std.proofs.Common.{subst, inl, inr, ◌≤◌}
use Rattle.std.specs.Prelude.{if◌then◌else◌}
use Rattle.std.specs.Int.{bit_at}
use Rattle.std.specs.List.{list_any}
use Rattle.std.proofs.lemmas.Bool.{eq-eqb, ne_eqb, cases_eq}
use Rattle.std.proofs.lemmas.List.{get_or-set_same, get_or-set_other, drop_all, drop_more}
use Rattle.std.proofs.lemmas.Nat.{one_shl}
use Rattle.std.proofs.lemmas.Nat.Bits.{bit_at-pow_same, bit_at-pow_other}
use Rattle.std.proofs.Math.Bool.{or-false}
use Rattle.cyc_basics.specs.Bits.{is_one}
use Rattle.cyc_basics.proofs.Bits.{one_or, one_zero}
use Rattle.pair_family.specs.Labels.{row, has_difference, is_between_labels}
use Rattle.pair_family.proofs.ByAtom.{append_three}
use Rattle.pair_family.proofs.Rows.{row_next}

pub one_pow : (p q : ℕ) → p < 64 → is_one (1 * 2 ^ p % 18446744073709551616) q ≡ nat_eq p q
one_pow p q l =
    ap (λ x. is_one x q) (one_shl p 64 l) ∙
    elim (cases_eq q p) [
      | inl e ↦ ap (λ x. nat_eq x 1) (ap (bit_at (2 ^ p)) e ∙ bit_at-pow_same p) ∙ sym (eq-eqb p q (sym e))
      | inr d ↦ ap (λ x. nat_eq x 1) (bit_at-pow_other p q d) ∙ sym (ne_eqb p q (λ e. d (sym e)))
    ]

zeros_at : (n p : ℕ) → get_or (replicate n zero) p zero ≡ zero
zeros_at zero p = refl
zeros_at (suc n) zero = refl
zeros_at (suc n) (suc p) = zeros_at n p

pub none_added : (n p q : ℕ) (b : Bool) → (is_one (get_or (replicate n 0) p 0) q || b) ≡ b
none_added n p q b = ap (λ z. is_one z q || b) (zeros_at n p) ∙ ap (λ z. z || b) (one_zero q)

pub added : (near : List ℕ) (label other bit p q : ℕ) → label < length near → is_one bit q ≡ nat_eq other q
    → is_one (get_or (set near label (bit_or (get_or near label 0) bit)) p 0) q
    ≡ (is_one (get_or near p 0) q || (nat_eq label p && nat_eq other q))
added near label other bit p q l b =
    elim (cases_eq p label) [
      | inl e ↦
          subst (λ z. is_one (get_or (set near label (bit_or (get_or near label 0) bit)) z 0) q
          ≡ (is_one (get_or near z 0) q || (nat_eq label z && nat_eq other q))) (sym e)
          (ap (λ z. is_one z q) (get_or-set_same near label (bit_or (get_or near label 0) bit) 0 l)
          ∙ (one_or (get_or near label 0) bit q ∙ ap (λ z. is_one (get_or near label 0) q || z)
          (b ∙ sym (ap (λ z. z && nat_eq other q) (eq-eqb label label refl)))))
      | inr d ↦
          ap (λ z. is_one z q) (get_or-set_other near label p (bit_or (get_or near label 0) bit) 0 d)
          ∙ (sym (or-false (is_one (get_or near p 0) q))
          ∙ ap (λ z. is_one (get_or near p 0) q || z)
          (sym (ap (λ z. z && nat_eq other q) (ne_eqb label p (λ e. d (sym e))))))
    ]

five : (o p q r s z : Bool) → (((o || (p && q)) || (r && s)) || z) ≡ (o || (((s && r) || (p && q)) || z))
five true p q r s z = refl
five false true true true true z = refl
five false true true true false z = refl
five false true true false true z = refl
five false true true false false z = refl
five false true false true true z = refl
five false true false true false z = refl
five false true false false true z = refl
five false true false false false z = refl
five false false true true true z = refl
five false false true true false z = refl
five false false true false true z = refl
five false false true false false z = refl
five false false false true true z = refl
five false false false true false z = refl
five false false false false true z = refl
five false false false false false z = refl

-- a turn of the loop over differences
pub near_more : (ds : List (ℕ × ℕ)) (i : ℕ) (d : ℕ × ℕ) (p q : ℕ) (old mid new : Bool) → i < length ds
    → mid ≡ (old || (nat_eq (get_or ds i d).0 p && nat_eq (get_or ds i d).1 q))
    → new ≡ (mid || (nat_eq (get_or ds i d).1 p && nat_eq (get_or ds i d).0 q))
    → (old || list_any (is_between_labels q p) (drop i ds)) ≡ list_any (is_between_labels q p) ds
    → (new || list_any (is_between_labels q p) (drop (i + 1) ds)) ≡ list_any (is_between_labels q p) ds
near_more ds i d p q old mid new l m n h =
    let t : ℕ × ℕ → Bool = is_between_labels q p in
    let x : ℕ × ℕ = get_or ds i d in
    let rest : Bool = list_any t (drop (i + 1) ds) in
    ap (λ z. z || rest) (n ∙ ap (λ z. z || (nat_eq x.1 p && nat_eq x.0 q)) m)
    ∙ five old (nat_eq x.0 p) (nat_eq x.1 q) (nat_eq x.1 p) (nat_eq x.0 q) rest
    ∙ subst (λ (z : List (ℕ × ℕ)). (old || list_any t z) ≡ list_any t ds) (drop_more ds i d l) h

-- and its end
pub near_end : (ds : List (ℕ × ℕ)) (i p q : ℕ) (now : Bool) → length ds ≤ i
    → (now || list_any (is_between_labels q p) (drop i ds)) ≡ list_any (is_between_labels q p) ds
    → now ≡ list_any (is_between_labels q p) ds
near_end ds i p q now l h =
    sym (or-false now)
    ∙ subst (λ (z : List (ℕ × ℕ)). (now || list_any (is_between_labels q p) z) ≡ list_any (is_between_labels q p) ds)
    (drop_all i ds l) h

-- a turn of the loop over a row
pub near_row : (labels : List ℕ) (ds : List (ℕ × ℕ)) (j i : ℕ) (b : Bool) (old now next : List (ℕ × ℕ))
    → now ≡ old ++ filter (has_difference labels ds) (row j i) → b ≡ has_difference labels ds (i, j)
    → next ≡ now ++ (if b then (i, j) ∷ [] else []) → next ≡ old ++ filter (has_difference labels ds) (row j (i + 1))
near_row labels ds j i b old now next a e c =
    let here : List (ℕ × ℕ) = if has_difference labels ds (i, j) then (i, j) ∷ [] else [] in
    c ∙ ap (λ x. now ++ (if x then (i, j) ∷ [] else [])) e ∙ ap (λ z. z ++ here) a
    ∙ sym (append_three old (filter (has_difference labels ds) (row j i)) here)
    ∙ ap (λ z. old ++ z) (sym (row_next (has_difference labels ds) j i))
