-- Numbers, cells, picks and outcomes that pass the tests have a text, and cells and picks have no flaw.
use Rattle.std.proofs.Common.{◌≡◌, ℕ, suc, ◌+◌, ◌*◌, ◌<◌, ◌≤◌, ◌^◌, Bool, true, false, List, [], ◌∷◌, length, map}
use Rattle.std.proofs.Common.{get_or, Option, Some, None, refl, sym, ap, subst, ◌∙◌, inl, inr, arith}
use Rattle.std.specs.Prelude.{◌&&◌, nat_lt, nat_le}
use Rattle.std.specs.List.{list_all}
use Rattle.std.specs.FinMap.{entries, len, len-entries}
use Rattle.std.proofs.lemmas.Bool.{and_left, ltb-true, leb-true, le-leb, le-ltb, lt-leb, ne_eqb}
use Rattle.cyc_basics.specs.declared.limits.Limits.{Limits}
use Rattle.heap_formula.specs.Words.{Each}
use Rattle.heap_formula.specs.Cells.{Cells, cell_at, IsHeap}
use Rattle.heap_formula.proofs.AllMembers.{each_imply, each_both}
use Rattle.general_models.specs.declared.runs.growth.Growth.{Growth}
use Rattle.general_models.specs.declared.runs.growth.ValuePair.{ValuePair}
use Rattle.general_models.specs.declared.runs.picks.Pick.{Pick}
use Rattle.general_models.specs.declared.runs.picks.Pick.TheVariants.{Cell as CellPicked, Jumps}
use Rattle.cyc_lex.specs.declared.fault.What.TheVariants.{Arguments, Stack}
use Rattle.cyc_lex.proofs.BoolParts.{and-parts}
use Rattle.cyc_grammar.specs.Syntax.{Class, one}
use Rattle.cyc_grammar.specs.Classes.{number}
use Rattle.heap_syntax.specs.Words.{comma, semicolon, closing}
use Rattle.heap_reader.specs.Flaws.{over_if, listed_flaw}
use Rattle.formula_reader.proofs.Lists.{listed_fits, none_later}
use Rattle.proof_file.proofs.Universal.{each_passes}
use Rattle.model_file.specs.declared.version.ModelVersion.{ModelVersion}
use Rattle.model_file.specs.Grammar.{numbers, values, cell, some_cell, cells1, cells, to_cell}
use Rattle.model_file.specs.Flaws.{stack_flaw, cells_flaw}
use Rattle.model_file.specs.Written.{cells_tree}
use Rattle.model_file.proofs.Parts.{IsFine}
use Rattle.model_file.proofs.SortedCells.{cell_found, cells_right}
use Rattle.run_file.specs.declared.tree.Outcome.{Outcome}
use Rattle.run_file.specs.declared.tree.Outcome.TheVariants.{Faults, Repeats, Grows, Breaks}
use Rattle.run_file.specs.Grammar.{pick, some_pick, picks1, picks, then_step, faulting, repeating, outcome}
use Rattle.run_file.specs.Grammar.{value_pair, some_pair, value_pairs, growing, breaking, has_breaks}
use Rattle.run_file.specs.Grammar.{breaking_or_growing}
use Rattle.run_file.specs.Spans.{pick_span}
use Rattle.run_file.specs.Flaws.{pick_flaw, picks_flaw}
use Rattle.run_file.specs.Limits.{is_short_number, are_short_numbers, are_fields, is_short_cell, is_short_entry}
use Rattle.run_file.specs.Limits.{is_short_pick, is_short_outcome, is_short_stack, is_short_heap, is_short_pair}
use Rattle.run_file.specs.Limits.{are_short_pairs, is_short_growth}
use Rattle.run_file.specs.Places.{is_short_place}

-- ---- numbers

map_same : {X : Type 0} (xs : List X) → map (λ (x : X). x) xs ≡ xs
map_same [] = refl
map_same {X = X} (x ∷ xs) = ap (λ (ys : List X). x ∷ ys) (map_same xs)

short_number : (n : ℕ) → is_short_number n ≡ true → n < 10 ^ 9
short_number n e = ltb-true n (10 ^ 9) e

numbers_fit : (behind : Class (Unit {0})) (ns : List ℕ) → 0 < length ns → are_short_numbers ns ≡ true
    → (numbers behind).fits ns
unfolding numbers
numbers_fit behind ns some e =
    subst (numbers behind).fits (map_same ns) (listed_fits (one number) (λ (n : ℕ). n) 0 comma behind ns some
    (each_passes is_short_number (λ (n : ℕ). n < 10 ^ 9) short_number ns e))

values_fit : (ns : List ℕ) → are_short_numbers ns ≡ true → values.fits ns
unfolding values
values_fit [] e = (tt, tt)
values_fit (n ∷ ns) e = (tt, numbers_fit semicolon (n ∷ ns) (omega arith) e)

-- ---- the stack

module _ (s : List ℕ) (short : is_short_stack s ≡ true) where
  stack_parts : (nat_le (length s) 65535 ≡ true) × (are_short_numbers s ≡ true)
  stack_parts = and-parts (nat_le (length s) 65535) (are_short_numbers s) short

  pub stack_fits : values.fits s
  stack_fits = values_fit s stack_parts.1

  pub stack_right : (k : ℕ) → stack_flaw k s ≡ None
  stack_right k =
      let few = leb-true (length s) 65535 stack_parts.0 in
      ap (λ (b : Bool). over_if b Stack (k + 131070)) (lt-leb 65536 (length s) (omega arith))

-- ---- cells

-- the parts of the test of a cell
record IsShort (most : Limits) (a : ℕ) (vs : List ℕ) : Type 0 where
  address : a < 10 ^ 9
  some : 0 < length vs
  few : length vs ≤ most.arguments
  fields : are_short_numbers vs ≡ true

short_parts : (most : Limits) (a : ℕ) (vs : List ℕ) → is_short_cell most a vs ≡ true → IsShort most a vs
short_parts most a vs e =
    let whole = and-parts (is_short_number a) (are_fields most vs) e in
    let counted = nat_lt 0 (length vs) && nat_le (length vs) most.arguments in
    let fields = and-parts counted (are_short_numbers vs) whole.1 in
    let counts = and-parts (nat_lt 0 (length vs)) (nat_le (length vs) most.arguments) fields.0 in
    record {
      address = short_number a whole.0;
      some = ltb-true 0 (length vs) counts.0;
      few = leb-true (length vs) most.arguments counts.1;
      fields = fields.1;
    }

cell_fits : (most : Limits) (a : ℕ) (vs : List ℕ) → is_short_cell most a vs ≡ true
    → cell.fits (record { address = a; fields = vs })
unfolding cell
cell_fits most a vs e = let parts = short_parts most a vs e in
    (tt, (parts.address, numbers_fit closing vs parts.some parts.fields))

-- a cell of a heap stands at a positive address
each_index : {X : Type 0} (P : X → Type 0) (d : X) (xs : List X) → ((i : ℕ) → i < length xs → P (get_or xs i d))
    → Each P xs
each_index P d [] f = tt
each_index P d (x ∷ xs) f = (f 0 (omega arith), each_index P d xs (λ i l. f (suc i) (omega arith)))

all_positive : (h : Cells) → IsHeap h → Each (λ (e : ℕ × List ℕ). 0 < e.0) (entries h)
all_positive h w = each_index (λ (e : ℕ × List ℕ). 0 < e.0) (0, []) (entries h)
    (λ i l. w.positive (get_or (entries h) i (0, [])).0 (get_or (entries h) i (0, [])).1 (cell_found h i (0, []) l))

fine : (most : Limits) (e : ℕ × List ℕ) → (0 < e.0) × (is_short_entry most e ≡ true) → IsFine most (to_cell e)
fine most e p =
    let first = p.0 in
    record { positive = ne_eqb e.0 0 (λ z. omega (arith, z)); few = (short_parts most e.0 e.1 p.1).few }

module _ (most : Limits) (h : Cells) (w : IsHeap h) (short : is_short_heap most h ≡ true) where
  heap_parts : (nat_le (length (entries h)) most.cells ≡ true) × (list_all (is_short_entry most) (entries h) ≡ true)
  heap_parts = and-parts (nat_le (length (entries h)) most.cells) (list_all (is_short_entry most) (entries h)) short

  each_entry_short : Each (λ (e : ℕ × List ℕ). is_short_entry most e ≡ true) (entries h)
  each_entry_short = each_passes (is_short_entry most) (λ (e : ℕ × List ℕ). is_short_entry most e ≡ true) (λ e p. p)
      (entries h) heap_parts.1

  entries_fit : (es : List (ℕ × List ℕ)) → Each (λ (e : ℕ × List ℕ). is_short_entry most e ≡ true) es
      → cells.fits (map to_cell es)
  unfolding cells cells1
  entries_fit [] a = (tt, tt)
  entries_fit (e ∷ es) a = (
    tt,
    listed_fits cell to_cell some_cell comma semicolon (e ∷ es) (omega arith)
        (each_imply (λ (x : ℕ × List ℕ). is_short_entry most x ≡ true) (λ (x : ℕ × List ℕ). cell.fits (to_cell x))
        (λ x p. cell_fits most x.0 x.1 p) (e ∷ es) a),
  )

  pub heap_fits : cells.fits (cells_tree h)
  heap_fits = entries_fit (entries h) each_entry_short

  pub heap_right : (k : ℕ) → cells_flaw most k (cells_tree h) ≡ None
  heap_right k =
      let positive = λ (e : ℕ × List ℕ). 0 < e.0 in
      let passes = λ (e : ℕ × List ℕ). is_short_entry most e ≡ true in
      cells_right most h k (each_imply (λ e. positive e × passes e) (λ e. IsFine most (to_cell e)) (fine most)
      (entries h) (each_both positive passes (entries h) (all_positive h w) each_entry_short))
      (leb-true (length (entries h)) most.cells heap_parts.0)

-- ---- picks

pick_fits : (most : Limits) (p : Pick) → is_short_pick most p ≡ true → pick.fits p
unfolding pick
pick_fits most (CellPicked a vs) e = (tt, cell_fits most a vs e)
pick_fits most (Jumps true) e = (tt, tt)
pick_fits most (Jumps false) e = (tt, tt)

pub picks_fit : (most : Limits) (ps : List Pick) → list_all (is_short_pick most) ps ≡ true → picks.fits ps
unfolding picks picks1
picks_fit most [] e = (tt, tt)
picks_fit most (p ∷ ps) e = (
  tt,
  subst (λ (xs : List Pick). (picks1).fits xs) (map_same (p ∷ ps))
      (listed_fits pick (λ (x : Pick). x) some_pick comma semicolon (p ∷ ps) (omega arith)
      (each_passes (is_short_pick most) pick.fits (pick_fits most) (p ∷ ps) e)),
)

pick_right : (most : Limits) (k : ℕ) (p : Pick) → is_short_pick most p ≡ true → pick_flaw most k p ≡ None
pick_right most k (CellPicked a vs) e =
    let few = (short_parts most a vs e).few in
    ap (λ (b : Bool). over_if b Arguments (k + 3 + 2 * most.arguments)) (le-ltb most.arguments (length vs) few)
pick_right most k (Jumps b) e = refl

listed_right : (most : Limits) (n k : ℕ) (ps : List Pick) → list_all (is_short_pick most) ps ≡ true
    → listed_flaw (λ n. pick_flaw most) pick_span n k ps ≡ None
listed_right most n k [] e = refl
listed_right most n k (p ∷ ps) e =
    let both = and-parts (is_short_pick most p) (list_all (is_short_pick most) ps) e in
    none_later (pick_flaw most k p) (listed_flaw (λ n. pick_flaw most) pick_span (suc n) (k + pick_span p) ps)
    (pick_right most k p both.0) (listed_right most (suc n) (k + pick_span p) ps both.1)

pub picks_right : (most : Limits) (k : ℕ) (ps : List Pick) → list_all (is_short_pick most) ps ≡ true
    → picks_flaw most k ps ≡ None
picks_right most k ps e = listed_right most 0 k ps e

-- ---- the outcome

both_short : (m n : ℕ) → is_short_number m && is_short_number n ≡ true → (m < 10 ^ 9) × (n < 10 ^ 9)
both_short m n e =
    let both = and-parts (is_short_number m) (is_short_number n) e in
    (short_number m both.0, short_number n both.1)

pair_fits : (p : ValuePair) → is_short_pair p ≡ true → value_pair.fits p
unfolding value_pair
pair_fits p e = (tt, both_short p.before p.after e)

pairs_fit : (ps : List ValuePair) → are_short_pairs ps ≡ true → value_pairs.fits ps
unfolding value_pairs
pairs_fit ps e =
    let both = and-parts (nat_lt 0 (length ps)) (list_all is_short_pair ps) e in
    subst (λ (xs : List ValuePair). value_pairs.fits xs) (map_same ps)
    (listed_fits value_pair (λ (x : ValuePair). x) some_pair comma closing ps (ltb-true 0 (length ps) both.0)
    (each_passes is_short_pair value_pair.fits pair_fits ps both.1))

growth_fits : (g : Growth) → is_short_growth g ≡ true → growing.fits g
unfolding growing then_step
growth_fits g e =
    let both = and-parts (is_short_number g.first && is_short_number g.again) (are_short_pairs g.renaming) e in
    (tt, (both_short g.first g.again both.0, pairs_fit g.renaming both.1))

growing_fits : (b : Bool) (g : Growth) → is_short_growth g ≡ true → (breaking_or_growing b).fits (inr g)
unfolding breaking_or_growing
growing_fits true g e = growth_fits g e
growing_fits false g e = (tt, growth_fits g e)

breaking_fits : (b : Bool) (n : ℕ) → b && is_short_number n ≡ true → (breaking_or_growing b).fits (inl n)
unfolding breaking_or_growing breaking
breaking_fits true n e = short_number n e
breaking_fits false n e = absurd (let z : false ≡ true = e in cc)

pub outcome_fits : (v : ModelVersion) (o : Outcome) → is_short_outcome v o ≡ true → (outcome v).fits o
unfolding outcome faulting repeating then_step
outcome_fits v (Faults l n) e = (tt, both_short l n e)
outcome_fits v (Repeats m n) e = (tt, both_short m n e)
outcome_fits v (Grows g) e = (tt, growing_fits (has_breaks v) g e)
outcome_fits v (Breaks n) e = (tt, breaking_fits (has_breaks v) n e)

-- ---- the test of each address is that of its entry

abbrev none_there : ℕ × List ℕ
none_there = (0, [])

places_listed : (most : Limits) (h : Cells) (es : List (ℕ × List ℕ))
    → ((i : ℕ) → i < length es → cell_at h (get_or es i none_there).0 ≡ Some (get_or es i none_there).1)
    → list_all (λ (a : ℕ). is_short_place most (cell_at h a) a) (map (λ (e : ℕ × List ℕ). e.0) es)
    ≡ list_all (is_short_entry most) es
places_listed most h [] f = refl
places_listed most h (e ∷ es) f =
    let first = ap (λ (o : Option (List ℕ)). is_short_place most o e.0) (f 0 (omega arith)) in
    let rest = places_listed most h es (λ i l. f (suc i) (omega arith)) in
    λ i. first i && rest i

pub places_short : (most : Limits) (h : Cells) → list_all (λ (a : ℕ). is_short_place most (cell_at h a) a)
    (map (λ (e : ℕ × List ℕ). e.0) (entries h)) ≡ list_all (is_short_entry most) (entries h)
places_short most h = places_listed most h (entries h) (λ i l. cell_found h i none_there l)

-- the answers of the code
pub heap_refused : (most : Limits) (h : Cells) → most.cells < len h → false ≡ is_short_heap most h
heap_refused most h many =
    let long = len-entries h in
    sym (and_left (nat_le (length (entries h)) most.cells) (list_all (is_short_entry most) (entries h))
    (lt-leb (length (entries h)) most.cells (omega (arith, long))))

pub heap_tested : (most : Limits) (h : Cells) (b : Bool) → len h ≤ most.cells
    → b ≡ list_all (λ (a : ℕ). is_short_place most (cell_at h a) a) (map (λ (e : ℕ × List ℕ). e.0) (entries h))
    → b ≡ is_short_heap most h
heap_tested most h b few e =
    let long = len-entries h in
    let counted = le-leb (length (entries h)) most.cells (omega (arith, long)) in
    e ∙ places_short most h ∙ ap (λ (c : Bool). c && list_all (is_short_entry most) (entries h)) (sym counted)
