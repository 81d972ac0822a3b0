-- The tree of a stack and a heap with a problem's definitions and antecedent fits the grammar of model files, and has
-- no flaw.
use Rattle.std.proofs.Common.{◌≡◌, ℕ, ◌+◌, ◌<◌, ◌≤◌, ◌^◌, List, [], ◌∷◌, length, map, Bool, None, refl, sym, ap, subst}
use Rattle.std.proofs.Common.{arith}
use Rattle.std.proofs.lemmas.Bool.{lt-leb, ne_eqb}
use Rattle.std.specs.FinMap.{entries}
use Rattle.cyc_basics.specs.declared.limits.Limits.{Limits}
use Rattle.cyc_basics.specs.Limits.{AreWithin}
use Rattle.heap_formula.specs.declared.judgements.Judgement.{Judgement}
use Rattle.heap_formula.specs.declared.judgements.Judgement.TheVariants.{Entail}
use Rattle.heap_formula.specs.Definitions.{Definition}
use Rattle.heap_formula.specs.Symbolic.{SymbolicHeap}
use Rattle.heap_formula.specs.Words.{Each}
use Rattle.heap_formula.specs.Values.{Stack}
use Rattle.heap_formula.specs.Cells.{Cells}
use Rattle.rule_book.specs.Limits.{IsHeapWithin, IsJudgementWithin, IsDefinitionWithin}
use Rattle.cyc_lex.specs.declared.fault.What.TheVariants.{Stack as StackValues}
use Rattle.cyc_grammar.specs.Syntax.{Class, one}
use Rattle.cyc_grammar.specs.Classes.{number}
use Rattle.heap_syntax.specs.Words.{comma, semicolon, closing}
use Rattle.heap_reader.specs.Flaws.{over_if}
use Rattle.heap_syntax.specs.DefinitionGrammar.{definitions}
use Rattle.model_file.specs.declared.version.ModelVersion.{ModelVersion}
use Rattle.model_file.specs.Versions.{model_limits, version_for}
use Rattle.model_file.specs.Grammar.{numbers, values, cell, some_cell, cells1, cells, question, state, body, model}
use Rattle.model_file.specs.Grammar.{to_cell}
use Rattle.model_file.specs.Trees.{Model}
use Rattle.model_file.specs.Flaws.{stack_flaw, cells_flaw, model_flaw, definitions_flaw, ask_flaw, first_value}
use Rattle.model_file.specs.Flaws.{first_cell, first_atom}
use Rattle.model_file.specs.Small.{IsShortNumber}
use Rattle.model_file.specs.Written.{cells_tree, tree_of}
use Rattle.model_file.proofs.Parts.{IsFine, eight_fields, limits_fit, within_version}
use Rattle.model_file.proofs.SortedCells.{cells_right}
use Rattle.formula_reader.proofs.Lists.{none_later, listed_fits}
use Rattle.formula_reader.specs.Within.{HaveFreeNames, HaveOwnNames}
use Rattle.formula_reader.proofs.Names.{few_parameters}
use Rattle.formula_reader.proofs.Heaps.{any_heap_fits}
use Rattle.formula_reader.proofs.Raised.{heap_raised, definitions_raised}
use Rattle.formula_reader.proofs.Within.{problem_keeps}
use Rattle.formula_reader.proofs.Judgements.{node_heap_flawless}
use Rattle.formula_reader.proofs.DefinitionTrees.{definitions_fit, definitions_flawless}
use Rattle.formula_reader.specs.declared.problem.Problem.{Problem}
use Rattle.heap_formula.proofs.AllMembers.{each_imply}
use Rattle.counter_model.specs.States.{IsPlainCell, IsPlainState}

-- ---- numbers and cells that fit

map_same : (ns : List ℕ) → map (λ n. n) ns ≡ ns
map_same [] = refl
map_same (n ∷ ns) = ap (λ ms. n ∷ ms) (map_same ns)

numbers_fit : (behind : Class (Unit {0})) (ns : List ℕ) → 0 < length ns → Each IsShortNumber ns
    → (numbers behind).fits ns
unfolding numbers
numbers_fit behind ns some a = subst (numbers behind).fits (map_same ns)
    (listed_fits (one number) (λ n. n) 0 comma behind ns some a)

values_fit : (ns : List ℕ) → Each IsShortNumber ns → values.fits ns
unfolding values
values_fit [] a = (tt, tt)
values_fit (n ∷ ns) a = (tt, numbers_fit semicolon (n ∷ ns) (omega arith) a)

cell_fit : (most : Limits) (e : ℕ × List ℕ) → IsPlainCell most e → cell.fits (to_cell e)
unfolding cell
cell_fit most e p = (tt, (p.address, numbers_fit closing e.1 p.some p.fields))

cells_fit : (most : Limits) (es : List (ℕ × List ℕ)) → Each (IsPlainCell most) es → cells.fits (map to_cell es)
unfolding cells cells1
cells_fit most [] a = (tt, tt)
cells_fit most (e ∷ es) a = (
  tt,
  listed_fits cell to_cell some_cell comma semicolon (e ∷ es) (omega arith)
      (each_imply (IsPlainCell most) (λ x. cell.fits (to_cell x)) (cell_fit most) (e ∷ es) a),
)

fine : (most : Limits) (e : ℕ × List ℕ) → IsPlainCell most e → IsFine most (to_cell e)
fine most e p = record { positive = ne_eqb e.0 0 (λ z. let q : 0 < e.0 = p.positive in omega (arith, z)); few = p.few }

-- ---- the tree

module _ (v : ModelVersion) (ds : List Definition) (a : SymbolicHeap) (s : Stack) (h : Cells)
    (w : Each (IsDefinitionWithin (model_limits v) ds) ds) (j : IsHeapWithin (model_limits v) ds a)
    (z : IsPlainState (model_limits v) s h) where
  tree_fits : HaveFreeNames ds → model.fits (tree_of v ds s h a)
  unfolding model body state question definitions
  tree_fits free = (
    tt,
    (
      tt,
      (
        definitions_fit (model_limits v) (limits_fit v) ds free w,
        (
          (values_fit s z.values, cells_fit (model_limits v) (entries h) z.cells),
          any_heap_fits (model_limits v) ds free a j,
        ),
      ),
    ),
  )

  tree_flawless : HaveOwnNames ds → length ds ≤ 4096 → model_flaw (tree_of v ds s h a) ≡ None
  tree_flawless own count_few =
      let most = model_limits v in
      let m = tree_of v ds s h a in
      let short : length s ≤ 65535 = z.short in
      let first : definitions_flaw m ≡ None = definitions_flawless most (eight_fields v) ds count_few
      own w in
      let second : stack_flaw (first_value m) s ≡ None = ap (λ (b : Bool). over_if b StackValues
      (first_value m + 131070)) (lt-leb 65536 (length s) (omega arith)) in
      let third : cells_flaw most (first_cell m) (cells_tree h)
      ≡ None = cells_right most h (first_cell m)
      (each_imply (IsPlainCell most) (λ e. IsFine most (to_cell e)) (fine most) (entries h) z.cells) z.few in
      let fourth : ask_flaw m ≡ None = node_heap_flawless most ds (eight_fields v) own
      (few_parameters most ds ds w) a j (first_atom m) in
      none_later (definitions_flaw m) _ first (none_later (stack_flaw (first_value m) s) _ second
      (none_later (cells_flaw most (first_cell m) (cells_tree h)) (ask_flaw m) third fourth))

-- ---- of a problem

-- the version of its model files
abbrev pub file_version : Problem → ModelVersion
file_version p = version_for p.version

-- what they may have
abbrev pub file_limits : Problem → Limits
file_limits p = model_limits (file_version p)

wider : (p : Problem) → AreWithin p.defs.most (file_limits p)
wider p = subst (λ (most : Limits). AreWithin most (file_limits p)) (sym p.limit) (within_version p.version)

module _ (p : Problem) (a : SymbolicHeap) (bs : List SymbolicHeap) (s : Stack) (h : Cells) (goal : p.goal ≡ Entail a bs)
    (z : IsPlainState (file_limits p) s h) where
  judged : IsJudgementWithin p.defs.most p.defs.list (length p.program) (Entail a bs)
  judged = subst (λ (g : Judgement). IsJudgementWithin p.defs.most p.defs.list (length p.program) g) goal
      (problem_keeps p).goal

  asked : IsHeapWithin (file_limits p) p.defs.list a
  asked = heap_raised p.defs.most (file_limits p) (wider p) p.defs.list a judged.heaps.0

  defined : Each (IsDefinitionWithin (file_limits p) p.defs.list) p.defs.list
  defined = definitions_raised p.defs.most (file_limits p) (wider p) p.defs.list p.defs.list
      (problem_keeps p).definitions

  pub file_fits : (v : ModelVersion) (ds : List Definition) (ask : SymbolicHeap) → v ≡ file_version p → ds ≡ p.defs.list
      → ask ≡ a → model.fits (tree_of v ds s h ask)
  file_fits v ds ask f d e =
      subst (λ (t : Model). model.fits t) (λ i. tree_of (sym f i) (sym d i) s h (sym e i))
      (tree_fits (file_version p) p.defs.list a s h defined asked z (problem_keeps p).free)

  pub file_flawless : (v : ModelVersion) (ds : List Definition) (ask : SymbolicHeap) → v ≡ file_version p
      → ds ≡ p.defs.list → ask ≡ a → model_flaw (tree_of v ds s h ask) ≡ None
  file_flawless v ds ask f d e =
      subst (λ (t : Model). model_flaw t ≡ None) (λ i. tree_of (sym f i) (sym d i) s h (sym e i))
      (tree_flawless (file_version p) p.defs.list a s h defined asked z (problem_keeps p).own (problem_keeps p).few)
