use Rattle.std.proofs.Common.{◌∙◌, List, ap}
use Rattle.std.specs.Prelude.{map}
use Rattle.cyc_lex.specs.Writing.{write_all}
use Rattle.cyc_grammar.proofs.WrittenTexts.{on-ok}
use Rattle.fo_syntax.specs.declared.problems.tree.ConstructorTree.{ConstructorTree}
use Rattle.fo_syntax.specs.declared.problems.tree.DefinitionTree.{DefinitionTree}
use Rattle.fo_syntax.specs.ProblemTrees.{constructor_of, definition_of}
use Rattle.fo_syntax.specs.ProblemGrammar.{constructors, definitions}
use Rattle.fo_syntax.specs.declared.proofs.tree.NodeTree.{NodeTree}
use Rattle.fo_syntax.specs.ProofTrees.{node_of}
use Rattle.fo_syntax.specs.ProofGrammar.{nodes}
use Rattle.fo_syntax.proofs.WrittenFiles.{body-wrote}
use Rattle.fo_syntax.proofs.proofs.files.write_body.Goals as goal

pub returns : goal.returns
returns c = on-ok c.symbol-2.result
    (λ e. body-wrote c.args.writer.now c.name.new.self c.name-2.new.self c.write_first_version.new.writer
    c.symbol.new.self c.write_constructors.new.writer c.write_definitions.new.writer c.write_nodes.new.writer
    c.symbol-2.new.self (map constructor_of c.args.tree.now.constructors.items)
    (map definition_of c.args.tree.now.definitions.items) (map node_of c.args.tree.now.nodes.items)
    c.in_ok-name.ensures.ok c.in_ok-name-2.ensures.ok c.in_ok-write_first_version.ensures c.in_ok-symbol.ensures.ok
    (c.in_ok-write_constructors.ensures ∙ ap (λ (xs : List ConstructorTree). write_all c.symbol.new.self
    (constructors.words (map constructor_of xs))) c.deref.ensures.value)
    (c.in_ok-write_definitions.ensures ∙ ap (λ (xs : List DefinitionTree). write_all c.write_constructors.new.writer
    (definitions.words (map definition_of xs))) c.deref-2.ensures.value)
    (c.in_ok-write_nodes.ensures ∙ ap (λ (xs : List NodeTree). write_all c.write_definitions.new.writer
    (nodes.words (map node_of xs))) c.deref-3.ensures.value) e) c.symbol-2.ensures.ok
