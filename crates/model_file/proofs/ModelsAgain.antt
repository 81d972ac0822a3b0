-- What a tree without a flaw says has a text; and a model is what its tree says.
use Rattle.std.proofs.Common.{◌≡◌, ℕ, false, List, [], ◌∷◌, ◌<◌, length, map, None, refl, sym, ap, ◌∙◌, arith}
use Rattle.std.specs.Ordering.{nat_cmp}
use Rattle.std.specs.Cmp.{nat_cmp_total}
use Rattle.std.specs.FinMap.{entries, from_entries, get-from_entries, get-entries, same_map, nat_cmp-IsAntisymmetric}
use Rattle.cyc_basics.specs.declared.limits.Limits.{Limits}
use Rattle.heap_formula.specs.Words.{Each}
use Rattle.heap_formula.specs.Cells.{Cells}
use Rattle.cyc_grammar.specs.Syntax.{Class, one, after, fits_many}
use Rattle.cyc_grammar.specs.Classes.{number}
use Rattle.heap_syntax.specs.Words.{comma, semicolon, closing}
use Rattle.heap_syntax.specs.Grammar as shared
use Rattle.heap_reader.specs.Flaws.{or_later}
use Rattle.heap_reader.specs.Values.{heap_value}
use Rattle.heap_reader.proofs.NoFlaw.{none_later, positive}
use Rattle.heap_syntax.specs.DefinitionGrammar.{definition}
use Rattle.heap_reader.specs.declared.definitions.scope.Scope.TheVariants.{Outside}
use Rattle.heap_reader.specs.DefinitionSpans.{definition_span}
use Rattle.heap_reader.specs.DefinitionFlaws.{headings, definition_flaw}
use Rattle.heap_reader.specs.DefinitionValues.{term_value, definition_value}
use Rattle.heap_reader.specs.Written.{definition_tree}
use Rattle.heap_reader.proofs.TreesAgain.{listed_again, found_name, heap_again, definition_again}
use Rattle.heap_reader.proofs.ValuesAgain.{each_known, found_place, heap_known, definition_known, definitions_fit}
use Rattle.model_file.specs.Trees.{Cell, Model}
use Rattle.model_file.specs.Grammar.{numbers, values, cell, cells1, cells, question, state, body, model, from_cell}
use Rattle.model_file.specs.Grammar.{to_cell}
use Rattle.model_file.specs.declared.file.Model.{Model as ModelValue}
use Rattle.model_file.specs.Flaws.{allowed, stack_flaw, cells_flaw, first_value, first_cell, first_atom}
use Rattle.model_file.specs.Flaws.{definitions_flaw, ask_flaw, model_flaw}
use Rattle.model_file.specs.Values.{cells_value}
use Rattle.model_file.specs.Small.{IsSmallCell, IsShortNumber, IsShortCell}
use Rattle.model_file.specs.Written.{cells_tree, tree_of}
use Rattle.model_file.specs.Reading.{IsModelOf}
use Rattle.model_file.proofs.Parts.{IsFine, faultless, fine_cells}
use Rattle.model_file.proofs.SortedCells.{each_entry, of_entries, sorted_right}
use Rattle.model_file.proofs.Moved.{heap_moved}

-- ---- cells that fit

behind_fit : (cs : List Cell) → fits_many (after comma cell) cs → Each cell.fits cs
behind_fit [] f = tt
behind_fit (c ∷ cs) f = (f.0, behind_fit cs f.1)

fit_behind : (cs : List Cell) → Each cell.fits cs → fits_many (after comma cell) cs
fit_behind [] f = tt
fit_behind (c ∷ cs) f = (f.0, fit_behind cs f.1)

pub each_fits : (cs : List Cell) → cells.fits cs → Each cell.fits cs
unfolding cells cells1 shared.listed
each_fits [] f = tt
each_fits (c ∷ cs) f = (f.1.1.0, behind_fit cs f.1.1.1)

all_fit : (cs : List Cell) → Each cell.fits cs → cells.fits cs
unfolding cells cells1 shared.listed
all_fit [] f = (tt, tt)
all_fit (c ∷ cs) f = (tt, (omega arith, (f.0, fit_behind cs f.1)))

each_tree : (Q : Cell → Type 0) (es : List (ℕ × List ℕ)) → Each (λ (e : ℕ × List ℕ). Q (to_cell e)) es
    → Each Q (map to_cell es)
each_tree Q [] all = tt
each_tree Q (e ∷ es) all = (all.0, each_tree Q es all.1)

-- the cells of a heap fit where those that it was made of do
sorted_fit : (cs : List Cell) → cells.fits cs → cells.fits (cells_tree (cells_value cs))
sorted_fit cs f =
    all_fit (cells_tree (cells_value cs)) (each_tree cell.fits (entries (cells_value cs))
    (each_entry (λ (e : ℕ × List ℕ). cell.fits (to_cell e)) (map from_cell cs)
    (of_entries cell.fits cs (each_fits cs f))))

-- ---- the tree with its cells in order

abbrev pub sorted : Model → Model
sorted m = record {
  version = m.version;
  definitions = m.definitions;
  stack = m.stack;
  cells = cells_tree (cells_value m.cells);
  ask = m.ask;
}

pub sorted_fits : (m : Model) → model.fits m → model.fits (sorted m)
unfolding model body state
sorted_fits m f = (tt, (tt, (f.1.1.0, ((f.1.1.1.0.0, sorted_fit m.cells f.1.1.1.0.1), f.1.1.1.1))))

pub sorted_flawless : (m : Model) → model_flaw m ≡ None → model_flaw (sorted m) ≡ None
sorted_flawless m e =
    let parts = faultless m e in
    let fine = fine_cells (allowed m) (first_cell m) m.cells parts.cells in
    let s = sorted m in
    none_later (definitions_flaw s) (or_later (stack_flaw (first_value s) s.stack)
    (or_later (cells_flaw (allowed m) (first_cell s) s.cells) (ask_flaw s))) parts.definitions
    (none_later (stack_flaw (first_value s) s.stack) (or_later (cells_flaw (allowed m) (first_cell s) s.cells)
    (ask_flaw s))
    parts.stack
    (none_later (cells_flaw (allowed m) (first_cell s) s.cells) (ask_flaw s)
    (sorted_right (allowed m) m.cells (first_cell m)
    fine.0 fine.1)
    (heap_moved (allowed m) (headings m.definitions) (first_atom m) (first_atom s) m.ask parts.ask)))

-- the values of a tree without a flaw have the tree in order
pub tree_again : (m : Model) → model_flaw m ≡ None
    → tree_of m.version (map (definition_value (headings m.definitions)) m.definitions) m.stack (cells_value m.cells)
    (heap_value term_value (headings m.definitions) m.ask) ≡ sorted m
tree_again m e =
    let ds = m.definitions in
    let hs = headings ds in
    let vs = map (definition_value hs) ds in
    let parts = faultless m e in
    let definitions = listed_again (definition_flaw (allowed m) hs) definition_span (definition_value hs)
    (definition_tree vs)
    (definition_again (allowed m) hs vs (found_name hs ds)) 0 4 ds parts.definitions in
    let ask = heap_again (allowed m) hs vs (found_name hs ds) Outside (first_atom m) m.ask parts.ask in
    λ i. record {
      version = m.version;
      definitions = definitions i;
      stack = m.stack;
      cells = cells_tree (cells_value m.cells);
      ask = ask i;
    }

-- ---- a model is what its tree says

entries_again : (es : List (ℕ × List ℕ)) → map from_cell (map to_cell es) ≡ es
entries_again [] = refl
entries_again (e ∷ es) = ap (λ fs. e ∷ fs) (entries_again es)

heap_is : (h : Cells) → from_entries {R = nat_cmp} (entries h) ≡ h
heap_is h = same_map nat_cmp_total nat_cmp-IsAntisymmetric _ _
    (λ q. get-from_entries nat_cmp_total (entries h) q ∙ sym (get-entries h q))

pub model_known : (m : ModelValue) → IsModelOf (tree_of m.version m.defs.list m.stack m.heap m.ask) m
unfolding model body question
model_known m =
    let ds = m.defs.list in
    let tree = tree_of m.version ds m.stack m.heap m.ask in
    let hs = headings tree.definitions in
    let parts = faultless tree m.flawless in
    let placed = found_place (allowed tree) ds parts.definitions in
    record {
      version = refl;
      most = m.limit;
      definitions = sym (each_known (definition_tree ds) (definition_value hs) definition.fits
          (definition_known ds hs placed) ds (definitions_fit tree.definitions m.fits.1.1.0));
      stack = refl;
      heap = sym (ap from_entries (entries_again (entries m.heap)) ∙ heap_is m.heap);
      ask = sym (heap_known ds hs placed false m.ask m.fits.1.1.1.1);
    }

-- ---- numbers and cells of a tree that fits

short_behind : (behind : Class (Unit {0})) (ns : List ℕ) → fits_many (after comma (one number)) ns
    → Each IsShortNumber ns
short_behind behind [] f = tt
short_behind behind (n ∷ ns) f = (f.0, short_behind behind ns f.1)

short_numbers : (behind : Class (Unit {0})) (ns : List ℕ) → (numbers behind).fits ns → Each IsShortNumber ns
unfolding numbers shared.listed
short_numbers behind [] f = tt
short_numbers behind (n ∷ ns) f = (f.1.0, short_behind behind ns f.1.1)

pub short_values : (ns : List ℕ) → values.fits ns → Each IsShortNumber ns
unfolding values
short_values [] f = tt
short_values (n ∷ ns) f = short_numbers semicolon (n ∷ ns) f.1

short_cell : (c : Cell) → cell.fits c → IsShortCell c
unfolding cell
short_cell c f = record { address = f.1.0; fields = short_numbers closing c.fields f.1.1 }

each_short : (cs : List Cell) → Each cell.fits cs → Each IsShortCell cs
each_short [] f = tt
each_short (c ∷ cs) f = (short_cell c f.0, each_short cs f.1)

pub model_short : (m : Model) → model.fits m → Each IsShortNumber m.stack × Each IsShortCell m.cells
unfolding model body state
model_short m f = (short_values m.stack f.1.1.1.0.0, each_short m.cells (each_fits m.cells f.1.1.1.0.1))

-- each cell has a field
some_field : (c : Cell) → cell.fits c → 0 < length c.fields
unfolding cell numbers shared.listed
some_field c f = f.1.1.0

each_small : (most : Limits) (cs : List Cell) → Each cell.fits cs → Each (IsFine most) cs → Each IsSmallCell cs
each_small most [] f g = tt
each_small most (c ∷ cs) f g = (
  record { positive = positive c.address g.0.positive; some = some_field c f.0 },
  each_small most cs f.1 g.1,
)

pub model_small : (m : Model) → model.fits m → model_flaw m ≡ None → Each IsSmallCell m.cells
unfolding model body state
model_small m f e =
    each_small (allowed m) m.cells (each_fits m.cells f.1.1.1.0.1)
    (fine_cells (allowed m) (first_cell m) m.cells (faultless m e).cells).0
