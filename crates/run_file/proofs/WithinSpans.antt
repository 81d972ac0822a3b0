-- A flaw stands at a token of its part.
use Rattle.std.proofs.Common.{ℕ, ◌+◌, ◌*◌, ◌≡◌, Bool, true, false, List, [], ◌∷◌, length, map, take, refl, arith}
use Rattle.std.specs.Prelude.{◌||◌, nat_eq, nat_lt, nat_le}
use Rattle.std.specs.List.{list_any}
use Rattle.std.proofs.lemmas.Bool.{leb-true, ltb-true}
use Rattle.cyc_basics.specs.declared.limits.Limits.{Limits}
use Rattle.general_models.specs.declared.runs.picks.Pick.{Pick}
use Rattle.general_models.specs.declared.runs.picks.Pick.TheVariants.{Cell as CellPicked, Jumps}
use Rattle.cyc_lex.specs.declared.fault.IllFault.TheVariants.{Address, NoLine}
use Rattle.cyc_lex.specs.declared.fault.What.TheVariants.{Arguments, Stack, Cells}
use Rattle.heap_reader.specs.Spans.{heap_span}
use Rattle.heap_reader.specs.Flaws.{ill_if, over_if, or_later, heap_flaw}
use Rattle.heap_reader.proofs.WithinSpans.{Before, first_before, over_before, ill_before, later, listed_or_before}
use Rattle.heap_reader.specs.declared.definitions.scope.Scope.TheVariants.{Outside}
use Rattle.heap_reader.specs.DefinitionSpans.{term_span}
use Rattle.heap_reader.specs.DefinitionFlaws.{headings, term_flaw}
use Rattle.heap_reader.proofs.DefinitionWithinSpans.{outside_before}
use Rattle.proof_file.specs.Building.{front_of}
use Rattle.proof_file.proofs.WithinSpans.{file_before}
use Rattle.model_file.specs.Trees.{Cell}
use Rattle.model_file.specs.Spans.{numbers_span, values_span, cell_span, cells_span}
use Rattle.model_file.specs.Flaws.{address_of, stack_flaw, fields_flaw, address_flaw, cell_flaw, cells_flaw}
use Rattle.run_file.specs.Trees.{Run}
use Rattle.run_file.specs.Spans.{pick_span}
use Rattle.run_file.specs.Flaws.{format, allowed, pick_flaw, picks_flaw, from_place, first_value, first_cell}
use Rattle.run_file.specs.Flaws.{first_pick, outcome_place, front_flaw, claim_flaw, state_given_flaw, run_flaw}

stack_before : (k : ℕ) (ns : List ℕ) → Before (stack_flaw k ns) (k + values_span ns)
stack_before k [] = tt
stack_before k (n ∷ ns) = by_test (nat_le 65536 (length (n ∷ ns))) refl
  where
    by_test : (b : Bool) → nat_le 65536 (length (n ∷ ns)) ≡ b
        → Before (over_if b Stack (k + 131070)) (k + values_span (n ∷ ns))
    by_test true e = let many = leb-true 65536 (length (n ∷ ns)) e in omega arith
    by_test false e = tt

fields_before : (most : Limits) (k : ℕ) (ns : List ℕ) → Before (fields_flaw most k ns) (k + numbers_span ns)
fields_before most k ns = by_test (nat_lt most.arguments (length ns)) refl
  where
    by_test : (b : Bool) → nat_lt most.arguments (length ns) ≡ b
        → Before (over_if b Arguments (k + 2 * most.arguments)) (k + numbers_span ns)
    by_test true e = let many = ltb-true most.arguments (length ns) e in omega (arith, many)
    by_test false e = tt

cell_before : (most : Limits) (all : List Cell) (n k : ℕ) (c : Cell)
    → Before (cell_flaw most all n k c) (k + cell_span c)
cell_before most all n k c =
    let m = k + cell_span c in
    let before = map address_of (take n all) in
    let fields = fields_flaw most (k + 3) c.fields in
    let over = over_if (nat_le most.cells n) Cells k in
    first_before (address_flaw before k c.address) (or_later over fields) m
    (ill_before (nat_eq c.address 0 || list_any (nat_eq c.address) before) Address k m (omega arith))
    (first_before over fields m (over_before (nat_le most.cells n) Cells k m (omega arith))
    (later fields (k + 3 + numbers_span c.fields) m (omega arith) (fields_before most (k + 3) c.fields)))

pick_before : (most : Limits) (k : ℕ) (p : Pick) → Before (pick_flaw most k p) (k + pick_span p)
pick_before most k (CellPicked a vs) = later (fields_flaw most (k + 3) vs) (k + 3 + numbers_span vs)
    (k + pick_span (CellPicked a vs)) (omega arith) (fields_before most (k + 3) vs)
pick_before most k (Jumps b) = tt

claim_before : (r : Run) → Before (claim_flaw r) (from_place r + 3 + heap_span term_span r.precondition)
claim_before r =
    let k = from_place r in
    let hs = headings r.definitions in
    let m = k + 3 + heap_span term_span r.precondition in
    let out = nat_eq r.line 0 || nat_lt (length r.lines) r.line in
    first_before (ill_if out NoLine (k + 1))
    (heap_flaw (term_flaw Outside) term_span (allowed r) hs (k + 3) r.precondition) m
    (ill_before out NoLine (k + 1) m (omega arith)) (outside_before (allowed r) hs (k + 3) r.precondition)

-- a run file's flaw stands at a token before the outcome
pub run_before : (r : Run) → Before (run_flaw r) (outcome_place r)
run_before r =
    let end = outcome_place r in
    let stack = stack_flaw (first_value r) r.stack in
    let cells = cells_flaw (allowed r) (first_cell r) r.cells in
    let picks = picks_flaw (allowed r) (first_pick r) r.picks in
    first_before (front_flaw r) (or_later (claim_flaw r) (or_later (state_given_flaw r) picks)) end
    (later (front_flaw r) (from_place r + 0) end (omega arith)
    (file_before (front_of (format r) r.definitions r.lines r.ends)))
    (first_before (claim_flaw r) (or_later (state_given_flaw r) picks) end
    (later (claim_flaw r) (from_place r + 3 + heap_span term_span r.precondition) end (omega arith)
    (claim_before r))
    (first_before (state_given_flaw r) picks end
    (first_before stack cells end (later stack (first_value r + values_span r.stack) end (omega arith)
    (stack_before (first_value r) r.stack))
    (later cells (first_cell r + cells_span r.cells) end (omega arith)
    (listed_or_before (cell_flaw (allowed r) r.cells) cell_span 1 (cell_before (allowed r) r.cells) (first_cell r)
    r.cells)))
    (listed_or_before (λ n. pick_flaw (allowed r)) pick_span 1 (λ n. pick_before (allowed r)) (first_pick r) r.picks)))
