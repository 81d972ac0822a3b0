use Rattle.std.proofs.Common.{List, map, refl, sym, ap, ◌∙◌, subst}
use Rattle.heap_formula.specs.Words.{Each}
use Rattle.heap_syntax.specs.declared.definitions.tree.DefinitionTree.{DefinitionTree}
use Rattle.heap_syntax.specs.declared.definitions.tree.TermTree.{TermTree}
use Rattle.heap_syntax.specs.declared.ends.tree.EndTree.{EndTree}
use Rattle.heap_syntax.specs.NumberedEnds.{ends}
use Rattle.proof_syntax.specs.declared.tree.NodeTree.{NodeTree}
use Rattle.pred_defs.specs.Book.{DefinitionBook}
use Rattle.proof_syntax.specs.Trees.{definition_of, end_of, node_of, file_of}
use Rattle.proof_file.specs.Building.{front_of}
use Rattle.proof_file.specs.Small.{IsSmallNode}
use Rattle.proof_file.specs.Flaws.{headings, file_flaw}
use Rattle.heap_reader.specs.EndValues.{ended_value}
use Rattle.proof_file.specs.Values.{term_value, definition_value, node_value}
use Rattle.proof_file.proofs.Fitting.{file_small, few_heads}
use Rattle.proof_file.proofs.SpanLaws.{file_ends_some, front_fits, nodes_some}
use Rattle.proof_file.proofs.TextFronts.{front_right}
use Rattle.proof_file.proofs.texts.reading.file_of_tree.Goals as goal

pub front_values-requires-clause-known : goal.front_values-requires-clause-known
front_values-requires-clause-known c = c.requires.known
    ∙ ap (λ (ds : List DefinitionTree). headings (map definition_of ds)) (sym c.deref.ensures.value)

pub front_values-requires-clause-right : goal.front_values-requires-clause-right
front_values-requires-clause-right c =
    let f = file_of c.args.tree.now in
    (λ i. file_flaw (front_of f.version (map definition_of (c.deref.ensures.value i)) (c.deref-2.ensures.value i)
    (map end_of (c.deref-3.ensures.value i))))
    ∙ front_right f c.requires.right

pub front_values-requires-clause-fits : goal.front_values-requires-clause-fits
front_values-requires-clause-fits c =
    let f = file_of c.args.tree.now in
    subst (λ (es : List (EndTree TermTree)). (ends f.version).fits (map end_of es)) (sym c.deref-3.ensures.value)
    (front_fits f c.requires.fits)

pub nodes-requires-clause-small : goal.nodes-requires-clause-small
nodes-requires-clause-small c =
    let f = file_of c.args.tree.now in
    let small = file_small f (file_ends_some f c.requires.fits) (nodes_some f c.requires.fits) c.requires.right in
    subst (λ (ns : List NodeTree). Each IsSmallNode (map node_of ns)) (sym c.deref-4.ensures.value) small.nodes

pub nodes-requires-clause-few : goal.nodes-requires-clause-few
nodes-requires-clause-few c =
    let f = file_of c.args.tree.now in
    let small = file_small f (file_ends_some f c.requires.fits) (nodes_some f c.requires.fits) c.requires.right in
    few_heads c.args.heads.now f c.requires.known small.few

pub file_of_values-requires : goal.file_of_values-requires
file_of_values-requires c =
    let f = file_of c.args.tree.now in (
      f,
      c.requires.fits,
      c.requires.right,
      record {
        version = refl;
        most = c.in_ok-front.ensures.most;
        definitions = c.in_ok-front.ensures.definitions
            ∙ (λ i. map (definition_value (c.requires.known i)) (map definition_of (c.deref.ensures.value i)));
        program = c.in_ok-front.ensures.program ∙ (λ i. ended_value term_value (c.requires.known i)
            (c.deref-2.ensures.value i) (map end_of (c.deref-3.ensures.value i)));
        nodes = c.in_ok-nodes.ensures ∙ (λ i. map (node_value (c.requires.known i))
            (map node_of (c.deref-4.ensures.value i)));
      },
    )

pub returns : goal.returns
returns c = record {
  version = c.file_of_values.ensures.version;
  most = ap (λ (b : DefinitionBook). b.most) c.file_of_values.ensures.defs ∙ c.in_ok-front.ensures.most;
  definitions = ap (λ (b : DefinitionBook). b.list) c.file_of_values.ensures.defs ∙ c.in_ok-front.ensures.definitions
      ∙ (λ i. map (definition_value (c.requires.known i)) (map definition_of (c.deref.ensures.value i)));
  program = c.file_of_values.ensures.program ∙ c.in_ok-front.ensures.program
      ∙ (λ i. ended_value term_value (c.requires.known i) (c.deref-2.ensures.value i)
      (map end_of (c.deref-3.ensures.value i)));
  nodes = c.file_of_values.ensures.nodes ∙ c.in_ok-nodes.ensures
      ∙ (λ i. map (node_value (c.requires.known i)) (map node_of (c.deref-4.ensures.value i)));
}
