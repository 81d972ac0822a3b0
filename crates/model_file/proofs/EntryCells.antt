-- The entries of a heap as cells of a text.
use Rattle.std.proofs.Common.{◌≡◌, ℕ, zero, suc, ◌+◌, ◌<◌, List, [], ◌∷◌, ◌++◌, length, map, take, get_or, Some, refl}
use Rattle.std.proofs.Common.{sym, ap, subst, ◌∙◌, arith}
use Rattle.std.specs.Prelude.{IsSome, is_some}
use Rattle.std.specs.FinMap.{entries}
use Rattle.heap_formula.specs.Words.{Each}
use Rattle.heap_formula.specs.Cells.{Cells, cell_at}
use Rattle.model_file.specs.Trees.{Cell}
use Rattle.model_file.specs.Small.{IsShortCell}
use Rattle.model_file.specs.Grammar.{to_cell}
use Rattle.model_file.specs.Written.{cells_tree}
use Rattle.model_file.proofs.SortedCells.{cell_found}

abbrev pub some_entry : ℕ × List ℕ
some_entry = (0, [])

address_at : (es : List (ℕ × List ℕ)) (i : ℕ) → i < length (map (λ (e : ℕ × List ℕ). e.0) es)
    → (get_or (map (λ (e : ℕ × List ℕ). e.0) es) i 0 ≡ (get_or es i some_entry).0) × (i < length es)
address_at [] i lt = absurd (omega arith)
address_at (e ∷ es) zero lt = (refl, omega arith)
address_at (e ∷ es) (suc i) lt = let rest = address_at es i (omega arith) in let below = rest.1 in (rest.0, omega arith)

-- the address at a place of the list of addresses is that of the entry there
pub entry_address : (h : Cells) (items : List ℕ) (i : ℕ) → items ≡ map (λ (e : ℕ × List ℕ). e.0) (entries h)
    → i < length items → (get_or items i 0 ≡ (get_or (entries h) i some_entry).0) × (i < length (entries h))
entry_address h items i same lt =
    subst (λ (xs : List ℕ). i < length xs → (get_or xs i 0 ≡ (get_or (entries h) i some_entry).0)
    × (i < length (entries h))) (sym same) (address_at (entries h) i) lt

each_at : (Q : Cell → Type 0) (es : List (ℕ × List ℕ)) (i : ℕ) → Each Q (map to_cell es) → i < length es
    → Q (to_cell (get_or es i some_entry))
each_at Q [] i all lt = absurd (omega arith)
each_at Q (e ∷ es) zero all lt = all.0
each_at Q (e ∷ es) (suc i) all lt = each_at Q es i all.1 (omega arith)

take_next : (es : List (ℕ × List ℕ)) (i : ℕ) → i < length es
    → take (i + 1) es ≡ take i es ++ get_or es i some_entry ∷ []
take_next [] i lt = absurd (omega arith)
take_next (e ∷ es) zero lt = refl
take_next (e ∷ es) (suc i) lt = ap (λ (n : ℕ). take n (e ∷ es)) (next i)
    ∙ ap (λ (xs : List (ℕ × List ℕ)). e ∷ xs) (take_next es i (omega arith))
  where
    next : (n : ℕ) → suc n + 1 ≡ suc (n + 1)
    next n = omega arith

cells_behind : (es fs : List (ℕ × List ℕ)) → map to_cell (es ++ fs) ≡ map to_cell es ++ map to_cell fs
cells_behind [] fs = refl
cells_behind (e ∷ es) fs = ap (λ (cs : List Cell). to_cell e ∷ cs) (cells_behind es fs)

module _ (h : Cells) (i address : ℕ) (is : address ≡ (get_or (entries h) i some_entry).0) (lt : i < length (entries h))
  where
    found : cell_at h address ≡ Some (get_or (entries h) i some_entry).1
    found = ap (cell_at h) is ∙ cell_found h i some_entry lt

    pub entry_there : IsSome (cell_at h address)
    entry_there = ap is_some found

    own_fields : (fields : List ℕ) → cell_at h address ≡ Some fields → (get_or (entries h) i some_entry).1 ≡ fields
    own_fields fields e = let same : Some (get_or (entries h) i some_entry).1 ≡ Some fields = sym found ∙ e in cc

    own_cell : (fields : List ℕ) → cell_at h address ≡ Some fields
        → to_cell (get_or (entries h) i some_entry) ≡ record { address = address; fields = fields }
    own_cell fields e = let same = own_fields fields e in let here = sym is in
        λ j. record { address = here j; fields = same j }

    pub entry_short : Each IsShortCell (cells_tree h) → (fields : List ℕ) → cell_at h address ≡ Some fields
        → IsShortCell (record { address = address; fields = fields })
    entry_short all fields e = subst IsShortCell (own_cell fields e) (each_at IsShortCell (entries h) i all lt)

    pub entry_next : (old : List Cell) (fields : List ℕ) → cell_at h address ≡ Some fields
        → old ≡ map to_cell (take i (entries h)) → old ++ record { address = address; fields = fields } ∷ []
        ≡ map to_cell (take (i + 1) (entries h))
    entry_next old fields e same =
        (λ j. same j ++ sym (own_cell fields e) j ∷ [])
        ∙ sym (cells_behind (take i (entries h)) (get_or (entries h) i some_entry ∷ []))
        ∙ ap (map to_cell) (sym (take_next (entries h) i lt))
