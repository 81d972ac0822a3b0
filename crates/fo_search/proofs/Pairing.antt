-- Sources beside their terms.
use Rattle.std.proofs.Common.{◌≡◌, ℕ, ◌≤◌, List, [], ◌∷◌, ◌++◌, length, drop, refl, sym, ap, ◌∙◌}
use Rattle.std.specs.List.{zip}
use Rattle.std.proofs.lemmas.List.{append-nil, drop_all}

zip_none : {X Y : Type 0} (xs : List X) (ys : List Y) → ys ≡ [] → zip xs ys ≡ []
zip_none [] ys e = refl
zip_none (x ∷ xs) ys e = ap (zip (x ∷ xs)) e

-- no terms are left
pub pairs_end : {X Y : Type 0} (sources : List X) (terms : List Y) (k : ℕ) (pairs whole : List (X × Y))
    → length terms ≤ k → pairs ++ zip (drop k sources) (drop k terms) ≡ whole → pairs ≡ whole
pairs_end {X} {Y} sources terms k pairs whole le h =
    sym (append-nil pairs) ∙ ap (λ (zs : List (X × Y)). pairs ++ zs)
    (sym (zip_none (drop k sources) (drop k terms) (drop_all k terms le))) ∙ h

-- no sources are left
pub pairs_all : {X Y : Type 0} (sources : List X) (terms : List Y) (k : ℕ) (pairs whole : List (X × Y))
    → length sources ≤ k → pairs ++ zip (drop k sources) (drop k terms) ≡ whole → pairs ≡ whole
pairs_all {X} {Y} sources terms k pairs whole le h =
    sym (append-nil pairs) ∙ ap (λ (xs : List X). pairs ++ zip xs (drop k terms)) (sym (drop_all k sources le)) ∙ h
