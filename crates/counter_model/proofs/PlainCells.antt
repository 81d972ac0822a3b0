-- What holds of the cells at all addresses of a heap holds of its entries.
use Rattle.std.proofs.Common.{◌≡◌, ℕ, zero, suc, ◌<◌, ◌≤◌, List, [], ◌∷◌, length, map, get_or, Some, ap, subst, sym}
use Rattle.std.proofs.Common.{◌∙◌, arith}
use Rattle.std.proofs.lemmas.List.{length-map}
use Rattle.std.specs.FinMap.{entries}
use Rattle.cyc_basics.specs.declared.limits.Limits.{Limits}
use Rattle.heap_formula.specs.Words.{Each}
use Rattle.heap_formula.specs.Cells.{Cells, cell_at}
use Rattle.heap_formula.specs.Values.{Stack}
use Rattle.model_file.specs.Small.{IsShortNumber}
use Rattle.model_file.proofs.SortedCells.{cell_found}
use Rattle.counter_model.specs.States.{HasPlainCell, IsPlainCell, IsPlainState}

each_index : {X : Type 0} (P : X → Type 0) (d : X) (xs : List X) → ((i : ℕ) → i < length xs → P (get_or xs i d))
    → Each P xs
each_index P d [] f = tt
each_index P d (x ∷ xs) f = (f 0 (omega arith), each_index P d xs (λ i l. f (suc i) (omega arith)))

-- what holds of each cell of a heap holds of its entries
pub all_entries : (P : ℕ × List ℕ → Type 0) (h : Cells) → ((a : ℕ) (vs : List ℕ) → cell_at h a ≡ Some vs → P (a, vs))
    → Each P (entries h)
all_entries P h f = each_index P (0, []) (entries h)
    (λ i l. f (get_or (entries h) i (0, [])).0 (get_or (entries h) i (0, [])).1 (cell_found h i (0, []) l))

at_address : (Q : ℕ → Type 0) (es : List (ℕ × List ℕ)) (i : ℕ) → i < length es
    → Each Q (map (λ (e : ℕ × List ℕ). e.0) es) → Q (get_or es i (0, [])).0
at_address Q [] i lt all = absurd (omega arith)
at_address Q (e ∷ es) zero lt all = all.0
at_address Q (e ∷ es) (suc i) lt all = at_address Q es i (omega arith) all.1

-- the same, where it is known at the listed addresses
pub plain_cells : (most : Limits) (h : Cells) (addresses : List ℕ)
    → addresses ≡ map (λ (e : ℕ × List ℕ). e.0) (entries h)
    → Each (HasPlainCell most h) addresses → Each (IsPlainCell most) (entries h)
plain_cells most h addresses are all =
    let known = subst (Each (HasPlainCell most h)) are all in
    each_index (IsPlainCell most) (0, []) (entries h)
    (λ i l. (at_address (HasPlainCell most h) (entries h) i l known).cell (get_or (entries h) i (0, [])).1
    (cell_found h i (0, []) l))

pub plain_state : (most : Limits) (s : Stack) (h : Cells) (values addresses asked : List ℕ) → values ≡ s
    → length values ≤ 65535
    → Each IsShortNumber values → addresses ≡ map (λ (e : ℕ × List ℕ). e.0) (entries h)
    → length addresses ≤ most.cells → asked ≡ addresses → Each (HasPlainCell most h) asked → IsPlainState most s h
plain_state most s h values addresses asked of_stack short all are few same cells = record {
  short = subst (λ (vs : Stack). length vs ≤ 65535) of_stack short;
  values = subst (Each IsShortNumber) of_stack all;
  few = let e : length (entries h) ≡ length addresses = sym (length-map (entries h) (λ (e : ℕ × List ℕ). e.0))
      ∙ sym (ap length are) in omega arith;
  cells = plain_cells most h asked (same ∙ are) cells;
}
