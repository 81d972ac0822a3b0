-- The first flaw of a model file that the grammar has: what is ill-formed or passes a limit, and at which token.
use Rattle.std.specs.Prelude.{ℕ, ◌+◌, ◌*◌, ◌||◌, nat_eq, nat_lt, nat_le, List, length, map, take}
use Rattle.std.specs.List.{list_any}
use Rattle.cyc_basics.specs.declared.limits.Limits.{Limits}
use Rattle.cyc_lex.specs.declared.fault.IllFault.TheVariants.{Address}
use Rattle.cyc_lex.specs.declared.fault.What.TheVariants.{Arguments, Stack, Cells}
use Rattle.heap_reader.specs.Spans.{total}
use Rattle.heap_reader.specs.Flaws.{Found, ill_if, over_if, or_later, listed_flaw, heap_flaw}
use Rattle.heap_reader.specs.declared.definitions.scope.Scope.TheVariants.{Outside}
use Rattle.heap_reader.specs.DefinitionSpans.{term_span, definition_span}
use Rattle.heap_reader.specs.DefinitionFlaws.{headings, term_flaw, definition_flaw}
use Rattle.model_file.specs.Trees.{Cell, Model}
use Rattle.model_file.specs.Versions.{model_limits}
use Rattle.model_file.specs.Spans.{values_span, cell_span, cells_span}

-- ---- each part begins at token k

-- at most 65,535 values, each of which has two tokens
abbrev pub stack_flaw : ℕ → List ℕ → Found
stack_flaw k ns = over_if (nat_le 65536 (length ns)) Stack (k + 131070)

-- at most so many fields, each of which has two tokens
abbrev pub fields_flaw : Limits → ℕ → List ℕ → Found
fields_flaw most k ns = over_if (nat_lt most.arguments (length ns)) Arguments (k + 2 * most.arguments)

-- an address that is 0 or stands in the list
abbrev pub address_flaw : List ℕ → ℕ → ℕ → Found
address_flaw before k a = ill_if (nat_eq a 0 || list_any (nat_eq a) before) Address k

abbrev pub address_of : Cell → ℕ
address_of c = c.address

-- the cell before which n of all stand: a positive address that no cell before has, at most so many cells
abbrev pub cell_flaw : Limits → List Cell → ℕ → ℕ → Cell → Found
cell_flaw most all n k c =
    or_later (address_flaw (map address_of (take n all)) k c.address)
    (or_later (over_if (nat_le most.cells n) Cells k) (fields_flaw most (k + 3) c.fields))

abbrev pub cells_flaw : Limits → ℕ → List Cell → Found
cells_flaw most k cs = listed_flaw (cell_flaw most cs) cell_span 0 k cs

-- ---- model files: four tokens stand before the definitions, a word before each other part

-- what a model file may have
abbrev pub allowed : Model → Limits
allowed m = model_limits m.version

abbrev pub first_value : Model → ℕ
first_value m = 4 + total definition_span m.definitions + 1

abbrev pub first_cell : Model → ℕ
first_cell m = first_value m + values_span m.stack + 1

abbrev pub first_atom : Model → ℕ
first_atom m = first_cell m + cells_span m.cells + 1

abbrev pub definitions_flaw : Model → Found
definitions_flaw m = listed_flaw (definition_flaw (allowed m) (headings m.definitions))
    definition_span 0 4 m.definitions

abbrev pub ask_flaw : Model → Found
ask_flaw m = heap_flaw (term_flaw Outside) term_span (allowed m) (headings m.definitions) (first_atom m) m.ask

-- of the stack, the heap and the formula
abbrev pub behind_definitions_flaw : Model → Found
behind_definitions_flaw m =
    or_later (stack_flaw (first_value m) m.stack)
    (or_later (cells_flaw (allowed m) (first_cell m) m.cells) (ask_flaw m))

abbrev pub model_flaw : Model → Found
model_flaw m = or_later (definitions_flaw m) (behind_definitions_flaw m)
