-- Heaps that agree at the addresses of both are one.
use Rattle.std.specs.Prelude.{◌↔◌, IsTrue}
use Rattle.std.specs.FinMap.{entries}
use Rattle.std.proofs.Common.{◌≡◌, ℕ, List, map, Bool, true, false, sym, ap, ◌∙◌, inl, inr}
use Rattle.heap_formula.specs.Words.{Each}
use Rattle.heap_formula.specs.Cells.{Cells, cell_at}
use Rattle.heap_formula.proofs.Unions.{same_cells}
use Rattle.heap_formula.proofs.AllMembers.{each_any}
use Rattle.cyc_basics.proofs.Options.{option_cases}
use Rattle.model_check.proofs.OnlyLocals.{member_each}
use Rattle.model_check.proofs.PlaceLists.{covers_all}

pub agreeing : (a b : Cells) (xs ys : List ℕ) → xs ≡ map (λ c. c.0) (entries a) → ys ≡ map (λ c. c.0) (entries b)
    → Each (λ x. cell_at a x ≡ cell_at b x) xs → Each (λ x. cell_at a x ≡ cell_at b x) ys → a ≡ b
agreeing a b xs ys of_a of_b at_a at_b = same_cells a b at
  where
    at : (q : ℕ) → cell_at a q ≡ cell_at b q
    at q = elim (option_cases (cell_at a q)) [
      | inr s ↦ member_each (λ x. cell_at a x ≡ cell_at b x) q xs
          ((covers_all a xs xs of_a (λ x m. m)).listed q s.0 s.1) at_a
      | inl n ↦ elim (option_cases (cell_at b q)) [
        | inr t ↦ member_each (λ x. cell_at a x ≡ cell_at b x) q ys
            ((covers_all b ys ys of_b (λ x m. m)).listed q t.0 t.1) at_b
        | inl m ↦ n ∙ sym m
      ]
    ]

pub agree_all : (a b : Cells) → a ≡ b → (xs : List ℕ) → Each (λ x. cell_at a x ≡ cell_at b x) xs
agree_all a b e xs = each_any (λ x. cell_at a x ≡ cell_at b x) (λ x. ap (λ h. cell_at h x) e) xs

-- the answers as the code has them
pub first_differ : (a b : Cells) (xs : List ℕ) (r : Bool) → r ≡ false → IsTrue r
    ↔ Each (λ x. cell_at a x ≡ cell_at b x) xs → IsTrue false ↔ (a ≡ b)
first_differ a b xs r f i = (
  λ t. absurd (let z : false ≡ true = t in cc),
  λ e. absurd (let z : r ≡ true = i.1 (agree_all a b e xs) in let y : true ≡ false = sym z ∙ f in cc),
)

pub both_agree : (a b : Cells) (xs ys us vs : List ℕ) (r q : Bool) → r ≡ true → us ≡ xs → vs ≡ ys
    → xs ≡ map (λ c. c.0) (entries a) → ys ≡ map (λ c. c.0) (entries b) → IsTrue r
    ↔ Each (λ x. cell_at a x ≡ cell_at b x) us → IsTrue q ↔ Each (λ x. cell_at a x ≡ cell_at b x) vs → IsTrue q
    ↔ (a ≡ b)
both_agree a b xs ys us vs r q t ue ve of_a of_b i j = (
  λ y. agreeing a b us vs (ue ∙ of_a) (ve ∙ of_b) (i.0 t) (j.0 y),
  λ e. j.1 (agree_all a b e vs),
)
