-- Turns of the loops over the pairs of a mask, of which the first is taken.
use Rattle.std.proofs.Common.{◌≡◌, ℕ, ◌+◌, ◌<◌, ◌≤◌, List, [], ◌∷◌, ◌++◌, map, Bool, true, false, ◌&&◌, drop, get_or, length}
use Rattle.std.proofs.Common.{sym, ap, ◌∙◌, subst}
use Rattle.std.specs.Prelude.{slice_index}
use Rattle.std.specs.Cmp.Lexicographic.{pointwise}
use Rattle.std.proofs.lemmas.List.{drop_more, drop_all}
use Rattle.pair_family.specs.Equality.{two_eq}
use Rattle.pair_family.specs.Labels.{joined_labels, relabelled, pairs_at, label_pairs}
use Rattle.pair_family.proofs.ByAtom.{append_three}

pub join_turn : (labels now : List ℕ) (q : ℕ × ℕ) (xs ys : List (ℕ × ℕ)) (all : List ℕ) → xs ≡ q ∷ ys
    → now ≡ map (relabelled (slice_index labels q.1) (slice_index labels q.0)) labels → joined_labels labels xs ≡ all
    → joined_labels now ys ≡ all
join_turn labels now q xs ys all e n h =
    ap (λ z. joined_labels z ys) n ∙ (sym (ap (joined_labels labels) e) ∙ h)

pub join_turn_at : (labels now places : List ℕ) (q : ℕ × ℕ) (xs ys : List (ℕ × ℕ)) (all : List ℕ) → xs ≡ q ∷ ys
    → now ≡ map (relabelled (slice_index labels (slice_index places q.1)) (slice_index labels (slice_index places q.0)))
    labels → joined_labels labels (pairs_at places xs) ≡ all → joined_labels now (pairs_at places ys) ≡ all
join_turn_at labels now places q xs ys all e n h =
    join_turn labels now (slice_index places q.0, slice_index places q.1) (pairs_at places xs) (pairs_at places ys) all
    (ap (pairs_at places) e) n h

pub push_turn : (out now all : List (ℕ × ℕ)) (labels : List ℕ) (q : ℕ × ℕ) (xs ys : List (ℕ × ℕ)) → xs ≡ q ∷ ys
    → now ≡ out ++ (slice_index labels q.0, slice_index labels q.1) ∷ [] → out ++ label_pairs labels xs ≡ all
    → now ++ label_pairs labels ys ≡ all
push_turn out now all labels q xs ys e n h =
    let one : List (ℕ × ℕ) = (slice_index labels q.0, slice_index labels q.1) ∷ [] in
    ap (λ z. z ++ label_pairs labels ys) n ∙ (sym (append_three out one (label_pairs labels ys))
    ∙ (sym (ap (λ z. out ++ label_pairs labels z) e) ∙ h))

pub push_turn_at : (out now all : List (ℕ × ℕ)) (labels places : List ℕ) (q : ℕ × ℕ) (xs ys : List (ℕ × ℕ))
    → xs ≡ q ∷ ys
    → now ≡ out ++ (slice_index labels (slice_index places q.0), slice_index labels (slice_index places q.1)) ∷ []
    → out ++ label_pairs labels (pairs_at places xs) ≡ all → now ++ label_pairs labels (pairs_at places ys) ≡ all
push_turn_at out now all labels places q xs ys e n h =
    push_turn out now all labels (slice_index places q.0, slice_index places q.1) (pairs_at places xs)
    (pairs_at places ys) (ap (pairs_at places) e) n h

-- the mask has no pair, and the list has one
pub mask_ends : (xs pairs : List (ℕ × ℕ)) (k : ℕ) (d : ℕ × ℕ) (all : Bool) → xs ≡ [] → k < length pairs
    → pointwise two_eq xs (drop k pairs) ≡ all → false ≡ all
mask_ends xs pairs k d all e l h =
    sym (ap (λ z. pointwise two_eq z (get_or pairs k d ∷ drop (k + 1) pairs)) e)
    ∙ subst (λ z. pointwise two_eq xs z ≡ all) (drop_more pairs k d l) h

-- the first pairs differ
pub pairs_differ : (q d : ℕ × ℕ) (xs ys pairs : List (ℕ × ℕ)) (k : ℕ) (all : Bool) → xs ≡ q ∷ ys → k < length pairs
    → two_eq q (get_or pairs k d) ≡ false → pointwise two_eq xs (drop k pairs) ≡ all → false ≡ all
pairs_differ q d xs ys pairs k all e l n h =
    sym (ap (λ z. z && pointwise two_eq ys (drop (k + 1) pairs)) n)
    ∙ (sym (ap (λ z. pointwise two_eq z (get_or pairs k d ∷ drop (k + 1) pairs)) e)
    ∙ subst (λ z. pointwise two_eq xs z ≡ all) (drop_more pairs k d l) h)

-- they are the same
pub pairs_agree : (q d : ℕ × ℕ) (xs ys pairs : List (ℕ × ℕ)) (k : ℕ) (all : Bool) → xs ≡ q ∷ ys → k < length pairs
    → two_eq q (get_or pairs k d) ≡ true → pointwise two_eq xs (drop k pairs) ≡ all
    → pointwise two_eq ys (drop (k + 1) pairs) ≡ all
pairs_agree q d xs ys pairs k all e l y h =
    sym (ap (λ z. z && pointwise two_eq ys (drop (k + 1) pairs)) y)
    ∙ (sym (ap (λ z. pointwise two_eq z (get_or pairs k d ∷ drop (k + 1) pairs)) e)
    ∙ subst (λ z. pointwise two_eq xs z ≡ all) (drop_more pairs k d l) h)

-- the list has no more
pub list_ends : (xs pairs : List (ℕ × ℕ)) (k : ℕ) (all : Bool) → length pairs ≤ k
    → pointwise two_eq xs (drop k pairs) ≡ all → pointwise two_eq xs [] ≡ all
list_ends xs pairs k all l h = subst (λ z. pointwise two_eq xs z ≡ all) (drop_all k pairs l) h
