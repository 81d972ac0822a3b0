-- One turn of the loop over a companion's disjuncts.
use Rattle.std.proofs.Common.{◌≡◌, ℕ, suc, ◌+◌, ◌<◌, ◌≤◌, true, false, cond, List, ◌∷◌, map, length, get_or, drop, Some}
use Rattle.std.proofs.Common.{sym, ap, ◌∙◌, add-one, drop-cons}
use Rattle.std.specs.Prelude.{slice_get}
use Rattle.std.proofs.lemmas.List.{drop_all}
use Rattle.heap_formula.specs.declared.proof_rules.RuleFault.TheVariants.{LinkDisjunct}
use Rattle.heap_formula.specs.Symbolic.{SymbolicHeap}
use Rattle.heap_formula.specs.Substitution.{Bindings, apply_heap}
use Rattle.rule_table.specs.LinkTable.{disjunct_fault, covers_some}

disjunct_turn : (bs : List SymbolicHeap) (s : Bindings) (ms : List ℕ) (cs : List SymbolicHeap) (k : ℕ)
    (c : SymbolicHeap) → k < length ms → k < length cs → get_or cs k c ≡ c
    → disjunct_fault bs k (drop k ms) (map (apply_heap s) (drop k cs))
    ≡ cond (covers_some (apply_heap s c) (slice_get bs (get_or ms k 0)))
    (disjunct_fault bs (suc k) (drop (suc k) ms) (map (apply_heap s) (drop (suc k) cs))) (Some (LinkDisjunct k))
disjunct_turn bs s ms cs k c in_ms in_cs is =
    let a = drop-cons ms k 0 in_ms in
    let b = drop-cons cs k c in_cs in
    let rest = map (apply_heap s) (drop (suc k) cs) in
    (λ i. disjunct_fault bs k (a i) (map (apply_heap s) (b i)))
    ∙ ap (λ (y : SymbolicHeap). disjunct_fault bs k (get_or ms k 0 ∷ drop (suc k) ms) (apply_heap s y ∷ rest)) is

pub disjunct_step : (bs : List SymbolicHeap) (s : Bindings) (ms : List ℕ) (cs : List SymbolicHeap) (k : ℕ)
    (c : SymbolicHeap) → k < length ms → k < length cs → get_or cs k c ≡ c
    → covers_some (apply_heap s c) (slice_get bs (get_or ms k 0)) ≡ true
    → disjunct_fault bs (k + 1) (drop (k + 1) ms) (map (apply_heap s) (drop (k + 1) cs))
    ≡ disjunct_fault bs k (drop k ms) (map (apply_heap s) (drop k cs))
disjunct_step bs s ms cs k c in_ms in_cs is t =
    let h = disjunct_turn bs s ms cs k c in_ms in_cs is
    ∙ ap (λ v. cond v (disjunct_fault bs (suc k) (drop (suc k) ms) (map (apply_heap s) (drop (suc k) cs)))
    (Some (LinkDisjunct k))) t in
    rw add-one (sym h)

pub disjunct_stop : (bs : List SymbolicHeap) (s : Bindings) (ms : List ℕ) (cs : List SymbolicHeap) (k : ℕ)
    (c : SymbolicHeap) → k < length ms → k < length cs → get_or cs k c ≡ c
    → covers_some (apply_heap s c) (slice_get bs (get_or ms k 0)) ≡ false
    → disjunct_fault bs k (drop k ms) (map (apply_heap s) (drop k cs)) ≡ Some (LinkDisjunct k)
disjunct_stop bs s ms cs k c in_ms in_cs is t =
    disjunct_turn bs s ms cs k c in_ms in_cs is ∙ ap (λ v. cond v
    (disjunct_fault bs (suc k) (drop (suc k) ms) (map (apply_heap s) (drop (suc k) cs))) (Some (LinkDisjunct k))) t

pub disjuncts_left : (bs : List SymbolicHeap) (s : Bindings) (ms : List ℕ) (cs : List SymbolicHeap) (k : ℕ)
    → length cs ≤ k → k < length ms → disjunct_fault bs k (drop k ms) (map (apply_heap s) (drop k cs))
    ≡ Some (LinkDisjunct k)
disjuncts_left bs s ms cs k past lt =
    let a = drop-cons ms k 0 lt in
    let b = drop_all k cs past in
    λ i. disjunct_fault bs k (a i) (map (apply_heap s) (b i))
