-- Labels tell the classes of the kept terms.
use Rattle.std.proofs.Common.{◌≡◌, ℕ, zero, suc, ◌<◌, List, [], ◌∷◌, map, filter, length, Bool, ◌||◌, ◌&&◌, not, arith}
use Rattle.std.proofs.Common.{refl, ap, ◌∙◌}
use Rattle.std.specs.Prelude.{nat_eq, slice_index}
use Rattle.std.proofs.lemmas.List.{length-map}
use Rattle.std.specs.List.{list_any}
use Rattle.heap_formula.specs.declared.terms.Term.{Term}
use Rattle.pair_family.specs.Classes.{merged, class_from}
use Rattle.pair_family.specs.Combination.{Two, upto, pairs_below, is_between, is_in_class, is_least, kept}
use Rattle.pair_family.specs.Folding.{two_at}
use Rattle.pair_family.specs.Labels.{has_same, is_between_labels, has_difference, is_cell_label, said_by, relabelled}
use Rattle.pair_family.specs.Labels.{joined_labels}
use Rattle.pair_family.specs.Frames.{term_at}
use Rattle.pair_family.specs.Within.{AreWithin}
use Rattle.pair_family.proofs.Lists.{upto_in, pairs_in}
use Rattle.pair_family.proofs.Fold.{filter_same, any_same}

pub label_of : (f : Term → ℕ) (terms : List Term) (i : ℕ) → i < length terms
    → slice_index (map f terms) i ≡ f (term_at terms i)
label_of f [] i l = absurd (omega arith)
label_of f (t ∷ terms) zero l = refl
label_of f (t ∷ terms) (suc i) l = label_of f terms i (omega arith)

map_again : (g : ℕ → ℕ) (f h : Term → ℕ) → ((t : Term) → g (f t) ≡ h t) → (terms : List Term)
    → map g (map f terms) ≡ map h terms
map_again g f h e [] = refl
map_again g f h e (t ∷ terms) = let here = e t in let rest = map_again g f h e terms in λ i. here i ∷ rest i

-- the labels after the equations are the classes after them
pub labels_are : (f : Term → ℕ) (terms : List Term) (qs : List (ℕ × ℕ)) → AreWithin (length terms) qs
    → joined_labels (map f terms) qs ≡ map (class_from f (two_at (term_at terms) qs)) terms
labels_are f terms [] within = refl
labels_are f terms (q ∷ qs) within =
    let g : Term → ℕ = merged f (term_at terms q.0, term_at terms q.1) in
    let old = label_of f terms q.1 within.0.1 in
    let new = label_of f terms q.0 within.0.0 in
    let step : map (relabelled (slice_index (map f terms) q.1) (slice_index (map f terms) q.0)) (map f terms)
    ≡ map g terms =
    map_again (relabelled (slice_index (map f terms) q.1) (slice_index (map f terms) q.0)) f g
    (λ t i. relabelled (old i) (new i) (f t)) terms in
    ap (λ ls. joined_labels ls qs) step ∙ labels_are g terms qs within.1

pub any_map : {X Y : Type 0} (t : Y → Bool) (f : X → Y) (xs : List X)
    → list_any t (map f xs) ≡ list_any (λ x. t (f x)) xs
any_map t f [] = refl
any_map t f (x ∷ xs) = ap (λ b. t (f x) || b) (any_map t f xs)

-- what labels say is what the classes say
pub said_by_is : (k : ℕ) (f : Term → ℕ) (terms : List Term) (ds : List Two) (cs : List Term) → length terms ≡ suc k
    → said_by (map f terms) (map (λ q. (f q.0, f q.1)) ds) (map f cs) ≡ kept k (term_at terms) f ds cs
said_by_is k f terms ds cs long =
    let n : length (map f terms) ≡ suc k = length-map terms f ∙ long in
    let at = λ (i : ℕ) (l : i < suc k). label_of f terms i (omega arith) in
    let s = ap (λ m. filter (has_same (map f terms)) (pairs_below m)) n
    ∙ filter_same (has_same (map f terms)) (λ q. nat_eq (f (term_at terms q.0)) (f (term_at terms q.1)))
    (pairs_below (suc k)) (λ q m.
    let l = pairs_in (suc k) q m in
    let a = at q.0 (omega arith) in let b = at q.1 (omega arith) in λ i. nat_eq (a i) (b i)) in
    let d = ap (λ m. filter (has_difference (map f terms) (map (λ q. (f q.0, f q.1)) ds)) (pairs_below m)) n
    ∙ filter_same (has_difference (map f terms) (map (λ q. (f q.0, f q.1)) ds))
    (λ q. list_any (is_between f (term_at terms) q.0 q.1) ds) (pairs_below (suc k)) (λ q m.
    let l = pairs_in (suc k) q m in
    let a = at q.0 (omega arith) in let b = at q.1 (omega arith) in
    any_map (is_between_labels (slice_index (map f terms) q.0) (slice_index (map f terms) q.1)) (λ q. (f q.0, f q.1)) ds
    ∙ (λ i. list_any (λ p. (nat_eq (f p.0) (a i) && nat_eq (f p.1) (b i)) ||
    (nat_eq (f p.0) (b i) && nat_eq (f p.1) (a i))) ds)) in
    let c = ap (λ m. filter (is_cell_label (map f terms) (map f cs)) (upto m)) n
    ∙ filter_same (is_cell_label (map f terms) (map f cs))
    (λ i. is_least f (term_at terms) i && list_any (is_in_class f (term_at terms) i) cs) (upto (suc k)) (λ i m.
    let l = upto_in (suc k) i m in
    let a = at i l in
    let least = any_same (λ j. nat_eq (slice_index (map f terms) j) (slice_index (map f terms) i))
    (λ j. is_in_class f (term_at terms) i (term_at terms j)) (upto i)
    (λ j m. let l' = upto_in i j m in let b = at j (omega arith) in λ z. nat_eq (b z) (a z)) in
    let some = any_map (λ c. nat_eq c (slice_index (map f terms) i)) f cs ∙ (λ z. list_any (λ t. nat_eq (f t) (a z)) cs)
    in
    λ z. not (least z) && some z) in
    λ i. record { same = s i; differ = d i; cells = c i }
