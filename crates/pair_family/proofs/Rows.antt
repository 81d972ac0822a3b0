-- The pairs below n, row by row and pair by pair.
use Rattle.std.proofs.Common.{◌≡◌, inl, inr, ℕ, zero, suc, ◌+◌, ◌<◌, ◌≤◌, List, [], ◌∷◌, ◌++◌, map, filter, take}
use Rattle.std.proofs.Common.{length, get_or, Bool, true, false, ◌||◌}
use Rattle.std.proofs.Common.{◌&&◌, arith, sym, refl, ap, ◌∙◌}
use Rattle.std.specs.Prelude.{if◌then◌else◌, nat_eq, slice_index}
use Rattle.std.proofs.lemmas.Bool.{cases_Bool, eqb-true}
use Rattle.pair_family.specs.Combination.{upto, pairs_below}
use Rattle.pair_family.specs.Labels.{relabelled, row, has_same, neighbours, has_difference, is_between_labels}
use Rattle.pair_family.specs.Labels.{joined_labels, label_pairs, labels_at}
use Rattle.pair_family.proofs.ByAtom.{append_three}
use Rattle.std.proofs.lemmas.List.{map-append, take_more}
use Rattle.std.specs.List.{list_any}
use Rattle.std.proofs.lemmas.List.Folds.{list_any-append}
use Rattle.std.proofs.Math.Bool.{or-false}

filter_append : {X : Type 0} (t : X → Bool) (xs ys : List X) → filter t (xs ++ ys) ≡ filter t xs ++ filter t ys
filter_append t [] ys = refl
filter_append t (x ∷ xs) ys =
    let rest = filter_append t xs ys in
    elim (cases_Bool (t x)) [ inl y ↦ rw y (ap (λ z. x ∷ z) rest) | inr n ↦ rw n rest ]

pub row_next : (t : ℕ × ℕ → Bool) (j i : ℕ) → filter t (row j (i + 1)) ≡ filter t (row j i)
    ++ (if t (i, j) then (i, j) ∷ [] else [])
row_next t j i =
    let e : i + 1 ≡ suc i = omega arith in
    ap (λ n. filter t (row j n)) e ∙ ap (filter t) (map-append (λ k. (k, j)) (upto i) (i ∷ []))
    ∙ filter_append t (row j i) ((i, j) ∷ [])

pub same_row : (labels : List ℕ) (j i : ℕ) (old now next : List (ℕ × ℕ))
    → now ≡ old ++ filter (has_same labels) (row j i) → next ≡ now
    ++ (if nat_eq (slice_index labels i) (slice_index labels j) then (i, j) ∷ [] else [])
    → next ≡ old ++ filter (has_same labels) (row j (i + 1))
same_row labels j i old now next a b =
    let here : List (ℕ × ℕ) = if nat_eq (slice_index labels i) (slice_index labels j) then (i, j) ∷ [] else [] in
    b ∙ ap (λ z. z ++ here) a ∙ sym (append_three old (filter (has_same labels) (row j i)) here)
    ∙ ap (λ z. old ++ z) (sym (row_next (has_same labels) j i))

pub next_row : (t : ℕ × ℕ → Bool) (j : ℕ) (now next : List (ℕ × ℕ)) → now ≡ filter t (pairs_below j)
    → next ≡ now ++ filter t (row j j) → next ≡ filter t (pairs_below (j + 1))
next_row t j now next a b =
    let e : suc j ≡ j + 1 = omega arith in
    b ∙ ap (λ z. z ++ filter t (row j j)) a ∙ sym (filter_append t (pairs_below j) (row j j))
    ∙ ap (λ n. filter t (pairs_below n)) e

any_if : (t : ℕ → Bool) (b : Bool) (x : ℕ) → list_any t (if b then x ∷ [] else []) ≡ (b && t x)
any_if t true x = elim (t x) as (λ z. (z || false) ≡ (true && z)) [ true ↦ refl | false ↦ refl ]
any_if t false x = refl

four : (p q r s z : Bool) → ((r && s) || ((q && p) || z)) ≡ (((p && q) || (r && s)) || z)
four true true true true z = refl
four true true true false z = refl
four true true false s z = refl
four true false true true z = refl
four true false true false z = refl
four true false false s z = refl
four false q true true z = refl
four false true true false z = refl
four false false true false z = refl
four false true false s z = refl
four false false false s z = refl

-- a label is a neighbour where a difference joins the two
pub near_is : (a b : ℕ) (ds : List (ℕ × ℕ)) → list_any (λ c. nat_eq c a) (neighbours b ds)
    ≡ list_any (is_between_labels a b) ds
near_is a b [] = refl
near_is a b (d ∷ ds) =
    let t : ℕ → Bool = λ c. nat_eq c a in
    let one : List ℕ = if nat_eq d.0 b then d.1 ∷ [] else [] in
    let two : List ℕ = if nat_eq d.1 b then d.0 ∷ [] else [] in
    let rest = near_is a b ds in
    let x = any_if t (nat_eq d.0 b) d.1 in
    let y = any_if t (nat_eq d.1 b) d.0 in
    list_any-append t one (two ++ neighbours b ds)
    ∙ ap (λ z. list_any t one || z) (list_any-append t two (neighbours b ds)) ∙ (λ i. x i || (y i || rest i))
    ∙ four (nat_eq d.0 a) (nat_eq d.1 b) (nat_eq d.0 b) (nat_eq d.1 a) (list_any (is_between_labels a b) ds)

pub difference_row : (labels : List ℕ) (ds : List (ℕ × ℕ)) (j i : ℕ) (b : Bool) (near : List ℕ)
    (old now next : List (ℕ × ℕ)) → now ≡ old ++ filter (has_difference labels ds) (row j i)
    → b ≡ list_any (λ c. nat_eq c (slice_index labels i)) near → near ≡ neighbours (slice_index labels j) ds
    → next ≡ now ++ (if b then (i, j) ∷ [] else []) → next ≡ old ++ filter (has_difference labels ds) (row j (i + 1))
difference_row labels ds j i b near old now next a e n c =
    let here : List (ℕ × ℕ) = if list_any (is_between_labels (slice_index labels i) (slice_index labels j)) ds then
    (i, j) ∷ [] else [] in
    let e' : b ≡ list_any (is_between_labels (slice_index labels i) (slice_index labels j)) ds = e
    ∙ ap (list_any (λ c. nat_eq c (slice_index labels i))) n
    ∙ near_is (slice_index labels i) (slice_index labels j) ds in
    c ∙ ap (λ x. now ++ (if x then (i, j) ∷ [] else [])) e' ∙ ap (λ z. z ++ here) a
    ∙ sym (append_three old (filter (has_difference labels ds) (row j i)) here)
    ∙ ap (λ z. old ++ z) (sym (row_next (has_difference labels ds) j i))

pub any_next : (t : ℕ → Bool) (i : ℕ) (found next : Bool) → found ≡ list_any t (upto i) → next ≡ (found || t i)
    → next ≡ list_any t (upto (i + 1))
any_next t i found next a b =
    let e : suc i ≡ i + 1 = omega arith in
    b ∙ ap (λ z. z || t i) a ∙ sym (any_append t (upto i) i) ∙ ap (λ n. list_any t (upto n)) e
  where
    any_append : (t : ℕ → Bool) (xs : List ℕ) (x : ℕ) → list_any t (xs ++ (x ∷ [])) ≡ (list_any t xs || t x)
    any_append t xs x = list_any-append t xs (x ∷ []) ∙ ap (λ b. list_any t xs || b) (or-false (t x))

pub cell_next : (t : ℕ → Bool) (i : ℕ) (b : Bool) (now next : List ℕ) → now ≡ filter t (upto i) → b ≡ t i
    → next ≡ now ++ (if b then i ∷ [] else []) → next ≡ filter t (upto (i + 1))
cell_next t i b now next a e c =
    let s : suc i ≡ i + 1 = omega arith in
    c ∙ ap (λ x. now ++ (if x then i ∷ [] else [])) e ∙ ap (λ z. z ++ (if t i then i ∷ [] else [])) a
    ∙ sym (filter_append t (upto i) (i ∷ [])) ∙ ap (λ n. filter t (upto n)) s

label_same : (a l : ℕ) → (if nat_eq l a then a else l) ≡ l
label_same a l = elim (cases_Bool (nat_eq l a)) [ inl z ↦ rw z (sym (eqb-true l a z)) | inr z ↦ rw z refl ]

-- joining a label with itself changes nothing
pub joined_alone : (old new : ℕ) (labels : List ℕ) → old ≡ new → labels ≡ map (relabelled old new) labels
joined_alone old new [] e = refl
joined_alone old new (l ∷ labels) e =
    let here : l ≡ relabelled old new l = sym (label_same old l) ∙ ap (λ z. if nat_eq l old then z else l) e in
    let rest = joined_alone old new labels e in λ i. here i ∷ rest i

-- equations one list after the other
pub joined_append : (labels : List ℕ) (qs rs : List (ℕ × ℕ))
    → joined_labels labels (qs ++ rs) ≡ joined_labels (joined_labels labels qs) rs
joined_append labels [] rs = refl
joined_append labels (q ∷ qs) rs = joined_append (map (relabelled (slice_index labels q.1) (slice_index labels q.0))
    labels) qs rs

-- the labels of pairs one list after the other
pub label_pairs_append : (labels : List ℕ) (qs rs : List (ℕ × ℕ))
    → label_pairs labels (qs ++ rs) ≡ label_pairs labels qs ++ label_pairs labels rs
label_pairs_append labels qs rs = map-append (λ q. (slice_index labels q.0, slice_index labels q.1)) qs rs

-- one more of the first numbers
pub first_next : (ns : List ℕ) (i n : ℕ) → i < length ns → n ≡ get_or ns i n → take i ns ≡ upto i → n ≡ i
    → take (i + 1) ns ≡ upto (i + 1)
first_next ns i n l r a e =
    let s : suc i ≡ i + 1 = omega arith in
    let here : get_or ns i n ≡ i = sym r ∙ e in
    take_more ns i n l ∙ (λ j. a j ++ (here j ∷ [])) ∙ ap upto s

-- the first numbers have the first labels
take_read : (labels : List ℕ) (n : ℕ) → n < length labels
    → take (suc n) labels ≡ take n labels ++ (slice_index labels n ∷ [])
take_read [] n l = absurd (omega arith)
take_read (x ∷ labels) zero l = refl
take_read (x ∷ labels) (suc n) l = ap (λ z. x ∷ z) (take_read labels n (omega arith))

labels_upto : (labels : List ℕ) (n : ℕ) → n ≤ length labels → labels_at labels (upto n) ≡ take n labels
labels_upto labels zero l = refl
labels_upto labels (suc n) l =
    map-append (slice_index labels) (upto n) (n ∷ [])
    ∙ (ap (λ z. z ++ (slice_index labels n ∷ [])) (labels_upto labels n (omega arith))
    ∙ sym (take_read labels n (omega arith)))

pub labels_first : (labels ns : List ℕ) → ns ≡ upto (length ns) → length ns ≤ length labels
    → take (length ns) labels ≡ labels_at labels ns
labels_first labels ns e l = sym (ap (labels_at labels) e ∙ labels_upto labels (length ns) l)
