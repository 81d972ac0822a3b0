-- A flaw stands at a token of its part.
use Rattle.std.proofs.Common.{◌≡◌, ℕ, ◌+◌, ◌*◌, Bool, true, false, List, [], ◌∷◌, length, map, take, refl, arith}
use Rattle.std.specs.Prelude.{◌||◌, nat_eq, nat_lt, nat_le}
use Rattle.std.specs.List.{list_any}
use Rattle.std.proofs.lemmas.Bool.{leb-true, ltb-true}
use Rattle.cyc_basics.specs.declared.limits.Limits.{Limits}
use Rattle.cyc_lex.specs.declared.fault.IllFault.TheVariants.{Address}
use Rattle.cyc_lex.specs.declared.fault.What.TheVariants.{Arguments, Stack, Cells}
use Rattle.heap_reader.specs.Spans.{total, heap_span}
use Rattle.heap_reader.specs.Flaws.{over_if, or_later}
use Rattle.heap_reader.proofs.WithinSpans.{Before, first_before, over_before, ill_before, later, listed_before}
use Rattle.heap_reader.proofs.WithinSpans.{listed_or_before}
use Rattle.heap_reader.specs.DefinitionSpans.{term_span, definition_span}
use Rattle.heap_reader.specs.DefinitionFlaws.{headings, definition_flaw}
use Rattle.heap_reader.proofs.DefinitionWithinSpans.{outside_before, definition_before}
use Rattle.model_file.specs.Trees.{Cell, Model}
use Rattle.model_file.specs.Spans.{numbers_span, values_span, cell_span, cells_span}
use Rattle.model_file.specs.Flaws.{address_of, stack_flaw, fields_flaw, address_flaw, cell_flaw, cells_flaw}
use Rattle.model_file.specs.Flaws.{allowed, first_value, first_cell, first_atom, definitions_flaw, ask_flaw, model_flaw}

stack_before : (k : ℕ) (ns : List ℕ) → Before (stack_flaw k ns) (k + values_span ns)
stack_before k [] = tt
stack_before k (n ∷ ns) = by_test (nat_le 65536 (length (n ∷ ns))) refl
  where
    by_test : (b : Bool) → nat_le 65536 (length (n ∷ ns)) ≡ b
        → Before (over_if b Stack (k + 131070)) (k + values_span (n ∷ ns))
    by_test true e = let many = leb-true 65536 (length (n ∷ ns)) e in omega arith
    by_test false e = tt

fields_before : (most : Limits) (k : ℕ) (ns : List ℕ) → Before (fields_flaw most k ns) (k + numbers_span ns)
fields_before most k ns = by_test (nat_lt most.arguments (length ns)) refl
  where
    by_test : (b : Bool) → nat_lt most.arguments (length ns) ≡ b
        → Before (over_if b Arguments (k + 2 * most.arguments)) (k + numbers_span ns)
    by_test true e = let many = ltb-true most.arguments (length ns) e in omega (arith, many)
    by_test false e = tt

cell_before : (most : Limits) (all : List Cell) (n k : ℕ) (c : Cell) → Before (cell_flaw most all n k c)
    (k + cell_span c)
cell_before most all n k c =
    let m = k + cell_span c in
    let before = map address_of (take n all) in
    let fields = fields_flaw most (k + 3) c.fields in
    let over = over_if (nat_le most.cells n) Cells k in
    first_before (address_flaw before k c.address) (or_later over fields) m
    (ill_before (nat_eq c.address 0 || list_any (nat_eq c.address) before) Address k m (omega arith))
    (first_before over fields m (over_before (nat_le most.cells n) Cells k m (omega arith))
    (later fields (k + 3 + numbers_span c.fields) m (omega arith) (fields_before most (k + 3) c.fields)))

-- a model file's flaw stands at a token before the last words
pub model_before : (m : Model) → Before (model_flaw m) (first_atom m + heap_span term_span m.ask)
model_before m =
    let end = first_atom m + heap_span term_span m.ask in
    let hs = headings m.definitions in
    let most = allowed m in
    let stack = stack_flaw (first_value m) m.stack in
    let cells = cells_flaw most (first_cell m) m.cells in
    first_before (definitions_flaw m) (or_later stack (or_later cells (ask_flaw m))) end
    (later (definitions_flaw m) (4 + total definition_span m.definitions) end (omega arith)
    (listed_before (definition_flaw most hs) definition_span (definition_before most hs) 0 4 m.definitions))
    (first_before stack (or_later cells (ask_flaw m)) end
    (later stack (first_value m + values_span m.stack) end (omega arith) (stack_before (first_value m) m.stack))
    (first_before cells (ask_flaw m) end (later cells (first_cell m + cells_span m.cells) end (omega arith)
    (listed_or_before (cell_flaw most m.cells) cell_span 1 (cell_before most m.cells) (first_cell m) m.cells))
    (outside_before most hs (first_atom m) m.ask)))
