use Rattle.std.proofs.Common.{◌≡◌, ◌≤◌, List, length, map, None, sym, ap, ◌∙◌, subst, arith}
use Rattle.std.proofs.lemmas.List.{length-map}
use Rattle.heap_formula.specs.Words.{Each}
use Rattle.pred_defs.specs.Book.{DefinitionBook}
use Rattle.heap_reader.specs.Trees.{Heading}
use Rattle.heap_reader.specs.Values.{heap_value}
use Rattle.heap_syntax.specs.declared.definitions.tree.DefinitionTree.{DefinitionTree}
use Rattle.heap_syntax.specs.DefinitionTrees.{definition_of}
use Rattle.heap_reader.specs.DefinitionFlaws.{heading, headings}
use Rattle.heap_reader.specs.DefinitionSmall.{IsSmallDefinition}
use Rattle.heap_reader.specs.DefinitionValues.{term_value, definition_value}
use Rattle.heap_reader.proofs.DefinitionFitting.{definitions_small, outside_small}
use Rattle.model_file.specs.declared.syntax.tree.CellTree.{CellTree}
use Rattle.model_file.specs.Grammar.{model}
use Rattle.model_file.specs.Trees.{Model, cell_of, model_of}
use Rattle.model_file.specs.Flaws.{allowed, first_atom, model_flaw}
use Rattle.model_file.specs.Small.{IsSmallCell}
use Rattle.model_file.specs.Values.{cells_value}
use Rattle.model_file.specs.Written.{tree_of}
use Rattle.model_file.proofs.Parts.{faultless, limits_fit}
use Rattle.model_file.proofs.ModelsAgain.{sorted, sorted_fits, sorted_flawless, tree_again, model_small}
use Rattle.model_file.proofs.reading.model_of_tree.Goals as goal

small_definitions : (m : Model) → model_flaw m ≡ None
    → Each IsSmallDefinition m.definitions × (length m.definitions ≤ 4096)
small_definitions m e = definitions_small (allowed m) (limits_fit m.version) (headings m.definitions) 4 m.definitions
    (faultless m e).definitions

few_heads : (heads : List Heading) (m : Model) → heads ≡ headings m.definitions → model_flaw m ≡ None
    → length heads ≤ 4096
few_heads heads m known e =
    let few = (small_definitions m e).1 in
    omega (arith, few, ap length known, length-map m.definitions heading)

pub definition_values-requires-clause-small : goal.definition_values-requires-clause-small
definition_values-requires-clause-small c =
    subst (λ (ds : List DefinitionTree). Each IsSmallDefinition (map definition_of ds)) (sym c.deref.ensures.value)
    (small_definitions (model_of c.args.tree.now) c.requires.right).0

pub definition_values-requires-clause-few : goal.definition_values-requires-clause-few
definition_values-requires-clause-few c = few_heads c.args.heads.now (model_of c.args.tree.now)
    c.requires.known c.requires.right

pub from_vec-defs-requires-clause-few : goal.from_vec-defs-requires-clause-few
from_vec-defs-requires-clause-few c =
    let few = (small_definitions (model_of c.args.tree.now) c.requires.right).1 in
    omega (
      arith,
      few,
      length-map c.args.tree.now.definitions.items definition_of,
      ap length c.deref.ensures.value,
      c.in_ok-definitions.ensures.size,
    )

pub cells-requires : goal.cells-requires
cells-requires c =
    subst (λ (cs : List CellTree). Each IsSmallCell (map cell_of cs)) (sym c.deref-3.ensures.value)
    (model_small (model_of c.args.tree.now) c.requires.fits c.requires.right)

pub heap_value-requires-clause-small : goal.heap_value-requires-clause-small
heap_value-requires-clause-small c =
    let m = model_of c.args.tree.now in
    outside_small (allowed m) (limits_fit m.version) (headings m.definitions) (first_atom m) m.ask
    (faultless m c.requires.right).ask

pub heap_value-requires-clause-few : goal.heap_value-requires-clause-few
heap_value-requires-clause-few c = few_heads c.args.heads.now (model_of c.args.tree.now)
    c.requires.known c.requires.right

pub invariant_of-result : goal.invariant_of-result
invariant_of-result c =
    let m = model_of c.args.tree.now in
    let hs = headings m.definitions in
    let list_is = ap (λ (b : DefinitionBook). b.list) c.from_vec-defs.ensures ∙ c.in_ok-definitions.ensures.value
    ∙ (λ i. map (definition_value (c.requires.known i)) (map definition_of (c.deref.ensures.value i))) in
    let stack_is = c.from_vec-stack.ensures ∙ c.in_ok-wide_numbers.ensures ∙ c.deref-2.ensures.value in
    let heap_is = c.in_ok-heap.ensures ∙ ap (λ (cs : List CellTree). cells_value (map cell_of cs))
    c.deref-3.ensures.value in
    let ask_is = c.in_ok-ask.ensures ∙ (λ i. heap_value term_value (c.requires.known i) m.ask) in
    let same : sorted m
    ≡ tree_of m.version c.from_vec-defs.result.list c.from_vec-stack.result c.in_ok-heap.heap c.in_ok-ask.ask = sym
    ((λ i. tree_of m.version (list_is i) (stack_is i) (heap_is i) (ask_is i)) ∙ tree_again m c.requires.right) in
    record {
      limit = ap (λ (b : DefinitionBook). b.most) c.from_vec-defs.ensures ∙ c.limits.ensures.value;
      fits = subst (λ (t : Model). model.fits t) same (sorted_fits m c.requires.fits);
      flawless = ap model_flaw (sym same) ∙ sorted_flawless m c.requires.right;
    }
