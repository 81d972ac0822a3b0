-- An entry is full where it has positions and leaves none to a further child.
use Rattle.std.proofs.Common.{◌≡◌, ℕ, ◌<◌, ◌^◌, List, [], ◌∷◌, Bool, true, false, not, ltb, ◌&&◌, Some, slice_get}
use Rattle.std.proofs.Common.{get_or, nat_eq, option_map, inl, inr, length, sym, refl, ap, ◌∙◌}
use Rattle.std.proofs.lemmas.Bool.{cases_Bool, and_from, and_left, both_ways, eq-eqb, eqb-true, ltb-true, or_left}
use Rattle.std.proofs.lemmas.Bool.{or_right}
use Rattle.std.proofs.lemmas.Option.{slice_get-map, slice_get_read}
use Rattle.std.specs.List.{list_all}
use Rattle.buchi_core.specs.Forest.{has, entry_has, child_has, set_of, is_set, is_filled, is_full, is_kept, losses}
use Rattle.buchi_core.specs.declared.entry.Entry.{Entry}
use Rattle.buchi_core.specs.declared.young.Young.{Young}
use Rattle.buchi_core.specs.Mask.{set_mask}
use Rattle.buchi_core.specs.View.{members, entry_of, entries_of}
use Rattle.cyc_basics.specs.declared.limits.TheConstants.{MOST_POSITIONS}
use Rattle.cyc_basics.specs.Bits.{is_one}
use Rattle.buchi_core.specs.Young.{AreLeft, left_of, made}
use Rattle.buchi_core.proofs.Lists.{every_has}
use Rattle.buchi_core.proofs.TwoHalves.{mask_fits}
use Rattle.buchi_core.proofs.Bits.{member_is, filled_mask, no_ones}
use Rattle.cyc_basics.proofs.Bits.{one_zero}

every_from : (t : ℕ → Bool) (xs : List ℕ) → ((q : ℕ) → has xs q ≡ true → t q ≡ true) → list_all t xs ≡ true
every_from t [] h = refl
every_from t (x ∷ xs) h =
    and_from (t x) (list_all t xs) (h x (or_left (nat_eq x x) (has xs x) (eq-eqb x x refl)))
    (every_from t xs (λ q m. h q (or_right (nat_eq x q) (has xs q) m)))

entry_at : (entries : List Entry) (i : ℕ) (e : Entry) → slice_get entries i ≡ Some e
    → slice_get (entries_of entries) i ≡ Some (entry_of e)
entry_at entries i e h = slice_get-map entry_of entries i ∙ ap (option_map entry_of) h

pub get_is : (entries : List Entry) (i : ℕ) (e : Entry) → true ≡ ltb i (length entries) → e ≡ get_or entries i e
    → slice_get entries i ≡ Some e
get_is entries i e l at = slice_get_read entries (length entries) i e refl (ltb-true i (length entries) (sym l)) at

pub full_parts : (y : Young) (i : ℕ) (e : Entry) → slice_get y.entries.items i ≡ Some e →
    is_full (made y) i ≡ (not (nat_eq (set_mask e) 0) && list_all (child_has (made y) i) (members (set_mask e)))
full_parts y i e at =
    ap (λ o. is_filled (set_of o) && list_all (child_has (made y) i) (set_of o)) (entry_at y.entries.items i e at) ∙
    ap (λ b. b && list_all (child_has (made y) i) (members (set_mask e))) (filled_mask (set_mask e) (mask_fits e))

-- with a position of which a flag says that it is left
left_none : (a b x : Bool) → x ≡ (a && not b) → x ≡ false → a ≡ true → b ≡ true
left_none a true x e f h = refl
left_none true false x e f h = absurd (both_ways x f e)
left_none false false x e f h = absurd (both_ways false refl h)

module _ (y : Young) (left : AreLeft y) (i : ℕ) (e : Entry) (at : slice_get y.entries.items i ≡ Some e)
    (fits : left_of y (Some i) < 2 ^ 64) where
  left_is : (q : ℕ) → q < MOST_POSITIONS → is_one (left_of y (Some i)) q
      ≡ (has (members (set_mask e)) q && not (child_has (made y) i q))
  left_is q l =
      left.right (Some i) q l ∙
      ap (λ o. entry_has o q && not (child_has (made y) i q)) (entry_at y.entries.items i e at)

  covered : list_all (child_has (made y) i) (members (set_mask e)) ≡ nat_eq (left_of y (Some i)) 0
  covered =
      elim (cases_Bool (nat_eq (left_of y (Some i)) 0)) [
        | inl z ↦
            every_from (child_has (made y) i) (members (set_mask e)) (λ q m. (
            let o = member_is (set_mask e) q m in
            left_none (has (members (set_mask e)) q) (child_has (made y) i q) (is_one (left_of y (Some i)) q)
            (left_is q o.0)
            (ap (λ k. is_one k q) (eqb-true (left_of y (Some i)) 0 z) ∙ one_zero q) m)) ∙ sym z
        | inr n ↦
            elim (cases_Bool (list_all (child_has (made y) i) (members (set_mask e)))) [
              | inl all ↦
                  absurd (both_ways (nat_eq (left_of y (Some i)) 0) n
                  (eq-eqb (left_of y (Some i)) 0 (no_ones (left_of y (Some i)) fits
                  (λ q l. left_is q l ∙ none q all))))
              | inr some' ↦ some' ∙ sym n
            ]
      ]
    where
      none : (q : ℕ) → list_all (child_has (made y) i) (members (set_mask e)) ≡ true
          → (has (members (set_mask e)) q && not (child_has (made y) i q)) ≡ false
      none q all =
          elim (cases_Bool (has (members (set_mask e)) q)) [
            | inl m ↦ ap (λ b. has (members (set_mask e)) q && not b)
                (every_has (child_has (made y) i) (members (set_mask e)) q all m) ∙ ap (λ b. b && false) m
            | inr n ↦ and_left (has (members (set_mask e)) q) (not (child_has (made y) i q)) n
          ]

  pub full_is : is_full (made y) i ≡ (not (nat_eq (set_mask e) 0) && nat_eq (left_of y (Some i)) 0)
  full_is = full_parts y i e at ∙ ap (λ b. not (nat_eq (set_mask e) 0) && b) covered

pub kept_is : (entries : List Entry) (lost : List Bool) (i : ℕ) (e : Entry) → lost ≡ losses (entries_of entries)
    → slice_get entries i ≡ Some e →
    is_kept (entries_of entries) i ≡ (not (nat_eq (set_mask e) 0) && not (is_set (slice_get lost i)))
kept_is entries lost i e same at =
    ap (λ o. is_filled (set_of o) && not (is_set (slice_get (losses (entries_of entries)) i))) (entry_at entries i e at)
    ∙
    (ap (λ b. b && not (is_set (slice_get (losses (entries_of entries)) i))) (filled_mask (set_mask e) (mask_fits e)) ∙
    ap (λ (z : List Bool). not (nat_eq (set_mask e) 0) && not (is_set (slice_get z i))) (sym same))

-- a test of two parts, where the first passes and where it fails
pub test_then : (n g w : Bool) → w ≡ (not n && g) → n ≡ false → g ≡ w
test_then true g w e f = absurd (both_ways true f refl)
test_then false g w e f = sym e

pub test_else : (n g w : Bool) → w ≡ (not n && g) → n ≡ true → not n ≡ w
test_else true g w e f = sym e
test_else false g w e f = absurd (both_ways false refl f)
