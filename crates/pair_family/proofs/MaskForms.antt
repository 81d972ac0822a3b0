-- The forms of a set of pairs.
use Rattle.std.proofs.Common.{◌≡◌, ℕ, ◌<◌, ◌^◌, List, Bool, nat_eq, length, sym, ap, ◌∙◌, subst}
use Rattle.std.specs.Prelude.{count_ones}
use Rattle.std.specs.Cmp.Lexicographic.{pointwise}
use Rattle.pair_family.specs.declared.states.pairs.PairForm.{PairForm}
use Rattle.pair_family.specs.declared.states.pairs.PairForm.TheVariants.{Masked}
use Rattle.pair_family.specs.Equality.{two_eq, pairs_digest}
use Rattle.pair_family.specs.Masks.{pairs_in}
use Rattle.pair_family.specs.PairForms.{pairs_of_form, IsForm}
use Rattle.pair_family.proofs.MaskBits.{digest_of_mask, ones_of_mask, same_masks, either_way}

shown : (f : PairForm) (mask : ℕ) (xs : List (ℕ × ℕ)) → f ≡ Masked mask → pairs_of_form f ≡ xs → pairs_in mask ≡ xs
shown f mask xs e v = sym (ap pairs_of_form e) ∙ v

pub form_digest : (f : PairForm) (mask : ℕ) (xs : List (ℕ × ℕ)) → f ≡ Masked mask → IsForm f → pairs_of_form f ≡ xs
    → mask ≡ pairs_digest xs
form_digest f mask xs e i v =
    let w : mask < 2 ^ 55 = subst IsForm e i in
    sym (digest_of_mask mask w) ∙ ap pairs_digest (shown f mask xs e v)

pub form_length : (f : PairForm) (mask : ℕ) (xs : List (ℕ × ℕ)) → f ≡ Masked mask → IsForm f → pairs_of_form f ≡ xs
    → count_ones mask ≡ length xs
form_length f mask xs e i v =
    let w : mask < 2 ^ 55 = subst IsForm e i in ones_of_mask mask w ∙ ap length (shown f mask xs e v)

pub forms_same : (f g : PairForm) (mask other : ℕ) (xs ys : List (ℕ × ℕ)) → f ≡ Masked mask → g ≡ Masked other
    → IsForm f → IsForm g → pairs_of_form f ≡ xs → pairs_of_form g ≡ ys → nat_eq mask other ≡ pointwise two_eq xs ys
forms_same f g mask other xs ys e d i j v w =
    same_masks mask other (subst IsForm e i) (subst IsForm d j)
    ∙ (λ k. pointwise two_eq (shown f mask xs e v k) (shown g other ys d w k))

pub forms_turned : (g : PairForm) (mask : ℕ) (xs ys : List (ℕ × ℕ)) (b : Bool) → g ≡ Masked mask
    → pairs_of_form g ≡ ys → b ≡ pointwise two_eq (pairs_in mask) xs → b ≡ pointwise two_eq xs ys
forms_turned g mask xs ys b e v h =
    h ∙ (ap (λ z. pointwise two_eq z xs) (shown g mask ys e v) ∙ either_way ys xs)
