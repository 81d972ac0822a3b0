use Rattle.std.proofs.Common.{◌∙◌, List, ap}
use Rattle.cyc_lex.specs.Writing.{write_all}
use Rattle.heap_syntax.specs.declared.definitions.tree.DefinitionTree.{DefinitionTree}
use Rattle.proof_syntax.specs.declared.tree.NodeTree.{NodeTree}
use Rattle.heap_syntax.specs.declared.ends.tree.EndTree.{EndTree}
use Rattle.heap_syntax.specs.declared.definitions.tree.TermTree.{TermTree}
use Rattle.proof_syntax.specs.Grammar.{definitions, lines, ends, nodes}
use Rattle.std.specs.Prelude.{map}
use Rattle.cyc_grammar.proofs.WrittenTexts.{on-ok}
use Rattle.proof_syntax.specs.Trees.{Line, definition_of, end_of, node_of}
use Rattle.proof_syntax.proofs.WrittenFiles.{body-wrote}
use Rattle.proof_syntax.proofs.writing.files.write_body.Goals as goal

pub returns : goal.returns
returns c = on-ok c.symbol-2.result
    (λ e. body-wrote c.args.writer.now c.name.new.self c.name-2.new.self c.write_version.new.writer c.symbol.new.self
    c.write_definitions.new.writer c.write_lines.new.writer c.write_ends.new.writer c.write_nodes.new.writer c.symbol-2.new.self
    c.args.tree.now.version (map definition_of c.args.tree.now.definitions.items) c.args.tree.now.lines.items
    (map end_of c.args.tree.now.ends.items) (map node_of c.args.tree.now.nodes.items)
    c.in_ok-name.ensures.ok c.in_ok-name-2.ensures.ok c.in_ok-write_version.ensures c.in_ok-symbol.ensures.ok
    (c.in_ok-write_definitions.ensures ∙ ap (λ (xs : List DefinitionTree). write_all c.symbol.new.self
    (definitions.words (map definition_of xs))) c.deref.ensures.value)
    (c.in_ok-write_lines.ensures ∙ ap (λ (xs : List Line). write_all c.write_definitions.new.writer
    ((lines c.args.tree.now.version).words xs)) c.deref-2.ensures.value)
    (c.in_ok-write_ends.ensures ∙ ap (λ (xs : List (EndTree TermTree)). write_all c.write_lines.new.writer
    ((ends c.args.tree.now.version).words (map end_of xs))) c.deref-3.ensures.value)
    (c.in_ok-write_nodes.ensures ∙ ap (λ (xs : List NodeTree). write_all c.write_ends.new.writer
    (nodes.words (map node_of xs))) c.deref-4.ensures.value) e) c.symbol-2.ensures.ok
