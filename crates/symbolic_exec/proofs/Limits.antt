-- The limits of premises, from those of the state before the command.
use Rattle.std.proofs.Common.{◌≡◌, ℕ, ◌+◌, ◌≤◌, Bool, true, false, ◌&&◌, List, [], ◌∷◌, length, refl, sym, ◌∙◌, subst}
use Rattle.std.proofs.Common.{arith, leb-true, length-append}
use Rattle.std.specs.Prelude.{nat_le, Result, Ok, Vec}
use Rattle.std.specs.declared.alloc.Global.{Global}
use Rattle.std.proofs.lemmas.List.{length-map}
use Rattle.cyc_basics.specs.declared.limits.Limits.{Limits}
use Rattle.heap_formula.specs.declared.terms.Term.{Term}
use Rattle.heap_formula.specs.declared.terms.Term.TheVariants.{Univ}
use Rattle.heap_formula.specs.declared.atoms.Pure.{Pure}
use Rattle.heap_formula.specs.declared.atoms.Spatial.TheVariants.{Cell}
use Rattle.heap_formula.specs.declared.judgements.Premise.{Premise}
use Rattle.heap_formula.specs.declared.proof_rules.RuleError.{RuleError}
use Rattle.heap_formula.specs.declared.proof_rules.RuleFault.TheVariants.{NoFreshVariable}
use Rattle.heap_formula.specs.Symbolic.{SymbolicHeap}
use Rattle.rule_table.specs.Answer.{needs, limited, is_short, has_numbers, each_heap, one}
use Rattle.heap_formula.specs.Fresh.{heap_numbers}
use Rattle.rule_table.specs.Answered.{IsAnswer}
use Rattle.rule_table.specs.ExecTable.{renamed, with_atom, with_cell, at_line}
use Rattle.rule_table.proofs.LimitedPremises.{limited_changed}
use Rattle.symbolic_exec.specs.States.{has_room_for}
use Rattle.std.proofs.lemmas.Bool.{and_parts}
use Rattle.cyc_basics.proofs.Tests.{le_same}

-- ---- sizes

one_true : (p : Bool) → (p && true) && true ≡ p
one_true true = refl
one_true false = refl

pub one_short : (most : Limits) (i : ℕ) (a b : SymbolicHeap)
    → each_heap (is_short most) (one (at_line i a b)) ≡ is_short most b
one_short most i a b = one_true (is_short most b)

pub sizes : (most : Limits) (p s : ℕ) (a b : SymbolicHeap) → length b.pure ≡ length a.pure + p
    → length b.spatial ≡ length a.spatial + s → is_short most b ≡ has_room_for most p s a
sizes most p s a b e f = λ i. nat_le (e i) most.pure && nat_le (f i) most.spatial

pub set_short : (most : Limits) (i x n : ℕ) (a : SymbolicHeap) (y : Pure)
    → each_heap (is_short most) (one (at_line i a (with_atom (renamed x n a) y))) ≡ has_room_for most 1 0 a
set_short most i x n a y =
    let l = length-append (renamed x n a).pure (y ∷ []) in
    let m : length (renamed x n a).pure ≡ length a.pure = length-map a.pure _ in
    let k : length (renamed x n a).spatial ≡ length a.spatial = length-map a.spatial _ in
    one_short most i a (with_atom (renamed x n a) y)
    ∙ sizes most 1 0 a (with_atom (renamed x n a) y) (omega arith) (omega arith)

pub new_short : (most : Limits) (i x n : ℕ) (a : SymbolicHeap) (us : List Term)
    → each_heap (is_short most) (one (at_line i a (with_cell (renamed x n a) x us))) ≡ has_room_for most 0 1 a
new_short most i x n a us =
    let l = length-append (renamed x n a).spatial (Cell (Univ x) us ∷ []) in
    let m : length (renamed x n a).pure ≡ length a.pure = length-map a.pure _ in
    let k : length (renamed x n a).spatial ≡ length a.spatial = length-map a.spatial _ in
    one_short most i a (with_cell (renamed x n a) x us)
    ∙ sizes most 0 1 a (with_cell (renamed x n a) x us) (omega arith) (omega arith)

-- ---- the answer from premises within the sizes

-- the only premise is the table's where no number passes the greatest, and passes it where the table's does
pub as_numbered : (most : Limits) (i : ℕ) (a real made : SymbolicHeap) (r : Result (Vec Premise Global) RuleError)
    (xs : List Premise) → xs ≡ one (at_line i a made) → each_heap (is_short most) (one (at_line i a real)) ≡ true
    → (heap_numbers real ≤ 65535 → made ≡ real) → (heap_numbers made ≤ 65535 → heap_numbers real ≤ 65535)
    → IsAnswer r (needs (each_heap has_numbers xs) NoFreshVariable (Ok xs))
    → IsAnswer r (limited most (one (at_line i a real)))
as_numbered most i a real made r xs is_made short same over is =
    limited_changed most r (one (at_line i a real)) (one (at_line i a made)) xs is_made short
    (λ q. (numbers q && true) && true) (λ e. let h = within e in λ q. one (at_line i a (same h q))) is
  where
    numbers : has_numbers made ≡ has_numbers real
    numbers = le_same _ _ _ _ over (λ h. subst (λ (b : SymbolicHeap). heap_numbers b ≤ 65535) (sym (same h)) h)

    within : each_heap has_numbers (one (at_line i a real)) ≡ true → heap_numbers real ≤ 65535
    within e =
        let first = and_parts (has_numbers real && true) true e in
        let only = and_parts (has_numbers real) true first.0 in leb-true _ _ only.0
