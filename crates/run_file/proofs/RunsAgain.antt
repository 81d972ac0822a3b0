-- What a tree without a flaw says has a text; and a run is what its tree says.
use Rattle.std.proofs.Common.{◌≡◌, ℕ, suc, ◌+◌, ◌*◌, ◌<◌, true, Bool, List, [], ◌∷◌, length, map, None, refl, sym, ap}
use Rattle.std.proofs.Common.{◌∙◌, arith}
use Rattle.std.specs.Prelude.{◌&&◌, nat_lt}
use Rattle.std.specs.Ordering.{nat_cmp}
use Rattle.std.specs.Cmp.{nat_cmp_total}
use Rattle.std.specs.FinMap.{entries, from_entries, get-from_entries, get-entries, same_map, nat_cmp-IsAntisymmetric}
use Rattle.cyc_basics.specs.declared.limits.Limits.{Limits}
use Rattle.heap_formula.specs.Words.{Each}
use Rattle.heap_formula.specs.Cells.{Cells}
use Rattle.rule_table.specs.Tests.{is_universal_heap}
use Rattle.general_models.specs.declared.runs.picks.Pick.{Pick}
use Rattle.general_models.specs.declared.runs.picks.Pick.TheVariants.{Cell as CellPicked, Jumps}
use Rattle.cyc_lex.specs.declared.fault.What.TheVariants.{Arguments}
use Rattle.cyc_lex.proofs.BoolParts.{and-parts}
use Rattle.cyc_grammar.specs.Syntax.{Class, one, after, fits_many}
use Rattle.cyc_grammar.specs.Classes.{number}
use Rattle.heap_syntax.specs.Words.{comma, semicolon, closing}
use Rattle.heap_syntax.specs.Grammar as shared
use Rattle.heap_reader.specs.Flaws.{over_if, or_later, listed_flaw}
use Rattle.heap_reader.specs.Values.{heap_value}
use Rattle.heap_reader.proofs.NoFlaw.{neither, none_later, not_over, positive}
use Rattle.heap_reader.proofs.Members.{behind_fit}
use Rattle.heap_reader.specs.EndValues.{ended_value}
use Rattle.heap_syntax.specs.DefinitionGrammar.{definition}
use Rattle.heap_reader.specs.declared.definitions.scope.Scope.TheVariants.{Outside}
use Rattle.heap_reader.specs.DefinitionSpans.{definition_span}
use Rattle.heap_reader.specs.DefinitionFlaws.{headings, definition_flaw}
use Rattle.heap_reader.specs.DefinitionValues.{term_value, definition_value}
use Rattle.heap_reader.specs.Written.{definition_tree}
use Rattle.heap_reader.proofs.TreesAgain.{listed_again, found_name, heap_again, definition_again}
use Rattle.heap_reader.proofs.ValuesAgain.{each_known, found_place, heap_known, definition_known, definitions_fit}
use Rattle.proof_file.specs.Building.{front_of}
use Rattle.proof_file.specs.Flaws.{first_line, first_end}
use Rattle.proof_file.proofs.LinesAgain.{program_lines_again, program_ends_again, program_known}
use Rattle.model_file.specs.Versions.{format_of}
use Rattle.heap_syntax.specs.NumberedEnds.{ends}
use Rattle.proof_file.proofs.ReadableNodes.{nodes_readable}
use Rattle.model_file.specs.Trees.{Cell}
use Rattle.model_file.specs.Grammar.{numbers, values, cell, cells1, cells, state, from_cell, to_cell}
use Rattle.model_file.specs.Flaws.{stack_flaw, fields_flaw, cells_flaw}
use Rattle.model_file.specs.Values.{cells_value}
use Rattle.model_file.specs.Small.{IsSmallCell, IsShortNumber, IsShortCell}
use Rattle.model_file.specs.Written.{cells_tree}
use Rattle.model_file.proofs.Parts.{IsFine, fine_cells}
use Rattle.model_file.proofs.SortedCells.{each_entry, of_entries, sorted_right}
use Rattle.run_file.specs.declared.file.RunFile.{RunFile}
use Rattle.run_file.specs.Trees.{Run}
use Rattle.run_file.specs.Grammar.{state_claimed, claim, claim_of, pick, picks1, picks, course, body, run}
use Rattle.run_file.specs.Fits.{file_of, in_file}
use Rattle.run_file.specs.Spans.{pick_span}
use Rattle.run_file.specs.Flaws.{format, allowed, pick_flaw, picks_flaw, from_place, first_value, first_cell}
use Rattle.run_file.specs.Flaws.{first_pick, front_flaw, claim_flaw, state_given_flaw, run_flaw}
use Rattle.run_file.specs.Small.{IsShortPick}
use Rattle.run_file.specs.Written.{tree_of}
use Rattle.run_file.specs.Reading.{IsRunOf}
use Rattle.run_file.proofs.Parts.{faultless}

-- ---- cells that fit

each_fits : (cs : List Cell) → cells.fits cs → Each cell.fits cs
unfolding cells cells1 shared.listed
each_fits [] f = tt
each_fits (c ∷ cs) f = (f.1.1.0, behind_fit comma cell cs f.1.1.1)

fit_behind : (cs : List Cell) → Each cell.fits cs → fits_many (after comma cell) cs
fit_behind [] f = tt
fit_behind (c ∷ cs) f = (f.0, fit_behind cs f.1)

all_fit : (cs : List Cell) → Each cell.fits cs → cells.fits cs
unfolding cells cells1 shared.listed
all_fit [] f = (tt, tt)
all_fit (c ∷ cs) f = (tt, (omega arith, (f.0, fit_behind cs f.1)))

each_tree : (Q : Cell → Type 0) (es : List (ℕ × List ℕ)) → Each (λ (e : ℕ × List ℕ). Q (to_cell e)) es
    → Each Q (map to_cell es)
each_tree Q [] all = tt
each_tree Q (e ∷ es) all = (all.0, each_tree Q es all.1)

-- the cells of a heap fit where those that it was made of do
sorted_fit : (cs : List Cell) → cells.fits cs → cells.fits (cells_tree (cells_value cs))
sorted_fit cs f =
    all_fit (cells_tree (cells_value cs)) (each_tree cell.fits (entries (cells_value cs))
    (each_entry (λ (e : ℕ × List ℕ). cell.fits (to_cell e)) (map from_cell cs)
    (of_entries cell.fits cs (each_fits cs f))))

-- ---- picks without a flaw have none wherever they stand

fields_moved : (most : Limits) (k j : ℕ) (vs : List ℕ) → fields_flaw most k vs ≡ None → fields_flaw most j vs ≡ None
fields_moved most k j vs e = ap (λ (b : Bool). over_if b Arguments (j + 2 * most.arguments))
    (not_over (nat_lt most.arguments (length vs)) Arguments (k + 2 * most.arguments) e)

pick_moved : (most : Limits) (k j : ℕ) (p : Pick) → pick_flaw most k p ≡ None → pick_flaw most j p ≡ None
pick_moved most k j (CellPicked a vs) e = fields_moved most (k + 3) (j + 3) vs e
pick_moved most k j (Jumps b) e = refl

picks_moved : (most : Limits) (n k j : ℕ) (ps : List Pick)
    → listed_flaw (λ n. pick_flaw most) pick_span n k ps ≡ None
    → listed_flaw (λ n. pick_flaw most) pick_span n j ps ≡ None
picks_moved most n k j [] e = refl
picks_moved most n k j (p ∷ ps) e =
    let rest = λ (i : ℕ). listed_flaw (λ n. pick_flaw most) pick_span (suc n) (i + pick_span p) ps in
    let both = neither (pick_flaw most k p) (rest k) e in
    none_later (pick_flaw most j p) (rest j) (pick_moved most k j p both.0)
    (picks_moved most (suc n) (k + pick_span p) (j + pick_span p) ps both.1)

-- ---- the tree with its cells in order

abbrev pub sorted : Run → Run
sorted r = record r { cells = cells_tree (cells_value r.cells) }

pub sorted_fits : (r : Run) → run.fits r → run.fits (sorted r)
unfolding run body course state
sorted_fits r f = (tt, (tt, (f.1.1.0, ((f.1.1.1.0.0, sorted_fit r.cells f.1.1.1.0.1), f.1.1.1.1))))

pub sorted_flawless : (r : Run) → run_flaw r ≡ None → run_flaw (sorted r) ≡ None
sorted_flawless r e =
    let parts = faultless r e in
    let fine = fine_cells (allowed r) (first_cell r) r.cells parts.cells in
    let s = sorted r in
    let picks = picks_flaw (allowed s) (first_pick s) s.picks in
    none_later (front_flaw s) (or_later (claim_flaw s) (or_later (state_given_flaw s) picks)) parts.front
    (none_later (claim_flaw s) (or_later (state_given_flaw s) picks) parts.claim
    (none_later (state_given_flaw s) picks
    (none_later (stack_flaw (first_value s) s.stack) (cells_flaw (allowed s) (first_cell s) s.cells) parts.stack
    (sorted_right (allowed r) r.cells (first_cell r) fine.0 fine.1))
    (picks_moved (allowed r) 0 (first_pick r) (first_pick s) r.picks parts.picks)))

-- the values of a tree without a flaw have the tree in order
pub tree_again : (r : Run) → run_flaw r ≡ None
    → tree_of r.version (map (definition_value (headings r.definitions)) r.definitions) (ended_value term_value (headings r.definitions) r.lines r.ends)
    r.line (heap_value term_value (headings r.definitions) r.precondition) r.stack (cells_value r.cells) r.picks
    r.outcome ≡ sorted r
tree_again r e =
    let ds = r.definitions in
    let hs = headings ds in
    let vs = map (definition_value hs) ds in
    let parts = faultless r e in
    let definitions = listed_again (definition_flaw (allowed r) hs) definition_span (definition_value hs)
    (definition_tree vs) (definition_again (allowed r) hs vs (found_name hs ds)) 0 4 ds parts.definitions in
    let front = front_of (format r) ds r.lines r.ends in
    let lines = program_lines_again (allowed r) hs vs (found_name hs ds) r.lines r.ends (first_end front) parts.ends
    (first_line front) parts.program in
    let ends = program_ends_again (allowed r) hs vs (found_name hs ds) r.lines r.ends (first_end front) parts.ends in
    let precondition = heap_again (allowed r) hs vs (found_name hs ds) Outside (from_place r + 3)
    r.precondition parts.precondition in
    λ i. record (sorted r) {
      definitions = definitions i;
      lines = lines i;
      ends = ends i;
      precondition = precondition i;
    }

-- ---- no existential variable stands in the precondition

pub state_universal : (r : Run) → run.fits r → is_universal_heap
    (heap_value term_value (headings r.definitions) r.precondition) ≡ true
unfolding run body
state_universal r f =
    let state = heap_value term_value (headings r.definitions) r.precondition in
    let all = nodes_readable (file_of r.version (claim_of r)) (in_file r.version (claim_of r) f.1.1.0) in
    (and-parts (is_universal_heap state) true (and-parts (is_universal_heap state && true) true all).0).0

-- ---- a run is what its tree says

entries_again : (es : List (ℕ × List ℕ)) → map from_cell (map to_cell es) ≡ es
entries_again [] = refl
entries_again (e ∷ es) = ap (λ fs. e ∷ fs) (entries_again es)

heap_is : (h : Cells) → from_entries {R = nat_cmp} (entries h) ≡ h
heap_is h = same_map nat_cmp_total nat_cmp-IsAntisymmetric _ _
    (λ q. get-from_entries nat_cmp_total (entries h) q ∙ sym (get-entries h q))

abbrev pub tree_of_run : RunFile → Run
tree_of_run r = tree_of r.version r.defs.list r.program r.line r.precondition r.stack r.heap r.picks.items r.outcome

pub run_known : (r : RunFile) → IsRunOf (tree_of_run r) r
unfolding run body claim state_claimed
run_known r =
    let ds = r.defs.list in
    let tree = tree_of_run r in
    let hs = headings tree.definitions in
    let parts = faultless tree r.flawless in
    let placed = found_place (allowed tree) ds parts.definitions in
    record {
      version = refl;
      most = r.limit;
      definitions = sym (each_known (definition_tree ds) (definition_value hs) definition.fits
          (definition_known ds hs placed) ds (definitions_fit tree.definitions r.fits.1.1.0.0));
      program = sym (program_known ds hs placed (format_of r.version) r.program r.universal r.fits.1.1.0.1.1.0);
      line = refl;
      precondition = sym (heap_known ds hs placed true r.precondition r.fits.1.1.0.1.1.1.1);
      stack = refl;
      heap = sym (ap from_entries (entries_again (entries r.heap)) ∙ heap_is r.heap);
      picks = refl;
      outcome = refl;
    }

-- ---- ends, numbers, cells and picks of a tree that fits

pub ends_fit : (r : Run) → run.fits r → (ends (format_of r.version)).fits r.ends
unfolding run body claim
ends_fit r f = f.1.1.0.1.1.0

short_behind : (ns : List ℕ) → fits_many (after comma (one number)) ns → Each IsShortNumber ns
short_behind [] f = tt
short_behind (n ∷ ns) f = (f.0, short_behind ns f.1)

short_numbers : (behind : Class (Unit {0})) (ns : List ℕ) → (numbers behind).fits ns → Each IsShortNumber ns
unfolding numbers shared.listed
short_numbers behind [] f = tt
short_numbers behind (n ∷ ns) f = (f.1.0, short_behind ns f.1.1)

short_values : (ns : List ℕ) → values.fits ns → Each IsShortNumber ns
unfolding values
short_values [] f = tt
short_values (n ∷ ns) f = short_numbers semicolon (n ∷ ns) f.1

short_cell : (c : Cell) → cell.fits c → IsShortCell c
unfolding cell
short_cell c f = record { address = f.1.0; fields = short_numbers closing c.fields f.1.1 }

each_short : (cs : List Cell) → Each cell.fits cs → Each IsShortCell cs
each_short [] f = tt
each_short (c ∷ cs) f = (short_cell c f.0, each_short cs f.1)

short_pick : (p : Pick) → pick.fits p → IsShortPick p
unfolding pick
short_pick (CellPicked a vs) f = short_cell (record { address = a; fields = vs }) f.1
short_pick (Jumps b) f = tt

short_picks_behind : (ps : List Pick) → Each pick.fits ps → Each IsShortPick ps
short_picks_behind [] f = tt
short_picks_behind (p ∷ ps) f = (short_pick p f.0, short_picks_behind ps f.1)

short_picks : (ps : List Pick) → picks.fits ps → Each IsShortPick ps
unfolding picks picks1 shared.listed
short_picks [] f = tt
short_picks (p ∷ ps) f = (short_pick p f.1.1.0, short_picks_behind ps (behind_fit comma pick ps f.1.1.1))

pub run_short : (r : Run) → run.fits r → Each IsShortNumber r.stack × Each IsShortCell r.cells
    × Each IsShortPick r.picks
unfolding run body course state
run_short r f = (
  short_values r.stack f.1.1.1.0.0,
  each_short r.cells (each_fits r.cells f.1.1.1.0.1),
  short_picks r.picks f.1.1.1.1.0,
)

-- each cell has a field
some_field : (c : Cell) → cell.fits c → 0 < length c.fields
unfolding cell numbers shared.listed
some_field c f = f.1.1.0

each_small : (most : Limits) (cs : List Cell) → Each cell.fits cs → Each (IsFine most) cs → Each IsSmallCell cs
each_small most [] f g = tt
each_small most (c ∷ cs) f g = (
  record { positive = positive c.address g.0.positive; some = some_field c f.0 },
  each_small most cs f.1 g.1,
)

pub run_small : (r : Run) → run.fits r → run_flaw r ≡ None → Each IsSmallCell r.cells
unfolding run body course state
run_small r f e =
    each_small (allowed r) r.cells (each_fits r.cells f.1.1.1.0.1)
    (fine_cells (allowed r) (first_cell r) r.cells (faultless r e).cells).0
