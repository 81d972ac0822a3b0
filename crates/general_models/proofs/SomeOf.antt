-- Loops that look for a member of which something holds.
use Rattle.std.specs.Prelude.{◌↔◌, IsTrue}
use Rattle.std.proofs.lemmas.List.{drop_all}
use Rattle.std.proofs.Common.{◌≡◌, ℕ, ◌+◌, ◌<◌, ◌≤◌, List, ◌∷◌, length, drop, get_or, Bool, true, false, ◌∙◌, inl, inr}
use Rattle.std.proofs.Common.{sym, refl, subst}
use Rattle.heap_formula.specs.Words.{Each, OneOf}
use Rattle.cyc_basics.proofs.Places.{drop_read}

module _ {X : Type 0} (P : X → Type 0) (xs : List X) (i : ℕ) (left : OneOf P xs ↔ OneOf P (drop i xs)) where
  module _ (x : X) (lt : i < length xs) (is : x ≡ get_or xs i x) where
    -- it holds of this member
    pub found : P x → OneOf P xs
    found p = left.1 (subst (OneOf P) (sym (drop_read xs i x lt is)) (inl p))

    -- it does not
    pub passed : (P x → ⊥) → OneOf P xs ↔ OneOf P (drop (i + 1) xs)
    passed n = (
      λ o. after (subst (OneOf P) (drop_read xs i x lt is) (left.0 o)),
      λ o.
          left.1 (subst (OneOf P) (sym (drop_read xs i x lt is)) (inr o)),
    )
      where
        after : OneOf P (x ∷ drop (i + 1) xs) → OneOf P (drop (i + 1) xs)
        after (inl p) = absurd (n p)
        after (inr o) = o

  -- all were passed
  pub none : length xs ≤ i → OneOf P xs → ⊥
  none l o = subst (OneOf P) (drop_all i xs l) (left.0 o)

-- ---- the same for what holds of each member

pub each_passed : {X : Type 0} (P : X → Type 0) (xs : List X) (i : ℕ) → Each P xs ↔ Each P (drop i xs) → (x : X)
    → i < length xs → x ≡ get_or xs i x → P x → Each P xs ↔ Each P (drop (i + 1) xs)
each_passed P xs i left x lt is p = (
  λ e. let f = subst (Each P) (drop_read xs i x lt is) (left.0 e) in f.1,
  λ e. left.1 (subst (Each P) (sym (drop_read xs i x lt is)) (p, e)),
)

-- ---- answers that two tests give

pub not_held : {S R : Type 0} (b : Bool) → b ≡ false → IsTrue b ↔ S → IsTrue false ↔ (S × R)
not_held b e i = (
  λ t. absurd (let z : false ≡ true = t in cc),
  λ r. absurd (let z : b ≡ true = i.1 r.0 in let y : true ≡ false = sym z ∙ e in cc),
)

pub held : {S R : Type 0} (b q : Bool) → b ≡ true → IsTrue b ↔ S → IsTrue q ↔ R → IsTrue q ↔ (S × R)
held b q e i j = (λ t. (i.0 e, j.0 t), λ r. j.1 r.1)

-- a test that failed excludes
pub excluded : {S : Type 0} (b : Bool) → b ≡ false → IsTrue b ↔ S → S → ⊥
excluded b e i x = let z : b ≡ true = i.1 x in let y : true ≡ false = sym z ∙ e in cc

pub yes : {S : Type 0} → S → IsTrue true ↔ S
yes s = (λ t. s, λ x. refl)

pub no : {S : Type 0} → (S → ⊥) → IsTrue false ↔ S
no n = (λ t. absurd (let z : false ≡ true = t in cc), λ x. absurd (n x))
