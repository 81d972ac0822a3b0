-- The addresses of the first cells.
use Rattle.std.proofs.Common.{◌≡◌, ℕ, zero, suc, ◌<◌, List, [], ◌∷◌, length, map, take, get_or, refl, ap, arith}
use Rattle.heap_formula.specs.Words.{Each}
use Rattle.std.specs.Prelude.{◌||◌, nat_eq}
use Rattle.std.specs.List.{list_any}
use Rattle.model_file.specs.declared.syntax.tree.CellTree.{CellTree}
use Rattle.model_file.specs.Trees.{cell_of}
use Rattle.model_file.specs.Flaws.{address_of}
use Rattle.model_file.specs.Small.{IsSmallCell}

pub first_addresses : (a n : ℕ) (cs : List CellTree)
    → list_any (λ (c : CellTree). nat_eq a c.address) (take n cs)
    ≡ list_any (nat_eq a) (map address_of (take n (map cell_of cs)))
first_addresses a zero cs = refl
first_addresses a (suc n) [] = refl
first_addresses a (suc n) (c ∷ cs) = ap (λ b. nat_eq a c.address || b) (first_addresses a n cs)

-- a cell among small ones is small
pub small_at : (cs : List CellTree) (i : ℕ) (d : CellTree) → Each IsSmallCell (map cell_of cs) → i < length cs
    → IsSmallCell (cell_of (get_or cs i d))
small_at [] i d all lt = absurd (omega arith)
small_at (c ∷ cs) zero d all lt = all.0
small_at (c ∷ cs) (suc i) d all lt = small_at cs i d all.1 (omega arith)
