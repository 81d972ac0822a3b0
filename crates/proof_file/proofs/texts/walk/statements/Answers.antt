use Rattle.std.proofs.Common.{List, length, map, ap, arith}
use Rattle.std.proofs.lemmas.List.{length-map}
use Rattle.heap_syntax.specs.declared.definitions.tree.DefinitionTree.{DefinitionTree}
use Rattle.heap_syntax.specs.declared.definitions.tree.TermTree.{TermTree}
use Rattle.heap_syntax.specs.declared.ends.tree.EndTree.{EndTree}
use Rattle.heap_reader.specs.EndSpans.{end_span}
use Rattle.heap_reader.specs.LineSpans.{line_span}
use Rattle.heap_reader.specs.Spans.{total}
use Rattle.proof_syntax.specs.declared.tree.NodeTree.{NodeTree}
use Rattle.proof_syntax.specs.Trees.{Line, definition_of, end_of, node_of}
use Rattle.proof_file.specs.Spans.{term_span, variable_span, definition_span, node_span}
use Rattle.proof_file.specs.Flaws.{heading}
use Rattle.proof_file.proofs.texts.walk.statements.Goals as goal

pub nodes-requires : goal.nodes-requires
nodes-requires c =
    omega (
      arith,
      c.requires.fits,
      c.in_ok-first_line.ensures.1,
      c.in_ok-first_end.ensures.1,
      c.in_ok-first_node.ensures.1,
      ap (λ (ds : List DefinitionTree). total definition_span (map definition_of ds)) c.deref.ensures.value,
      ap (λ (ls : List Line). total (line_span variable_span) ls) c.deref-2.ensures.value,
      ap (λ (es : List (EndTree TermTree)). total (end_span term_span) (map end_of es)) c.deref-4.ensures.value,
      ap (λ (ns : List NodeTree). total node_span (map node_of ns)) c.deref-5.ensures.value,
    )

pub walk_definitions-requires-clause-there : goal.walk_definitions-requires-clause-there
walk_definitions-requires-clause-there c =
    let items = c.args.tree.now.definitions.items in
    omega (
      arith,
      ap length c.requires.known,
      length-map (map definition_of items) heading,
      length-map items definition_of,
      ap length c.deref.ensures.value,
    )
