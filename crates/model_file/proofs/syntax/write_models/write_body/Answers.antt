use Rattle.std.proofs.Common.{◌∙◌, ℕ, List, ap}
use Rattle.std.specs.Prelude.{map}
use Rattle.cyc_lex.specs.Writing.{write_all}
use Rattle.cyc_grammar.proofs.WrittenTexts.{on-ok}
use Rattle.heap_syntax.specs.declared.definitions.tree.DefinitionTree.{DefinitionTree}
use Rattle.heap_syntax.specs.DefinitionGrammar.{definitions}
use Rattle.heap_syntax.specs.DefinitionTrees.{definition_of}
use Rattle.model_file.specs.declared.syntax.tree.CellTree.{CellTree}
use Rattle.model_file.specs.Grammar.{state}
use Rattle.model_file.specs.Trees.{cell_of, model_of}
use Rattle.model_file.proofs.ModelWriting.{body-wrote}
use Rattle.model_file.proofs.syntax.write_models.write_body.Goals as goal

pub returns : goal.returns
returns c = on-ok c.symbol-2.result
    (λ e. body-wrote c.args.writer.now c.name.new.self c.name-2.new.self c.write_model_version.new.writer
    c.symbol.new.self c.write_definitions.new.writer c.write_state.new.writer c.write_question.new.writer
    c.symbol-2.new.self (model_of c.args.tree.now)
    c.in_ok-name.ensures.ok c.in_ok-name-2.ensures.ok c.in_ok-write_model_version.ensures c.in_ok-symbol.ensures.ok
    (c.in_ok-write_definitions.ensures ∙ ap (λ (xs : List DefinitionTree). write_all c.symbol.new.self
    (definitions.words (map definition_of xs))) c.deref.ensures.value)
    (c.in_ok-write_state.ensures ∙ ap (λ (ns : List ℕ). write_all c.write_definitions.new.writer
    (state.words (ns, map cell_of c.deref-3.result.now))) c.deref-2.ensures.value
    ∙ ap (λ (cs : List CellTree). write_all c.write_definitions.new.writer
    (state.words (c.args.tree.now.stack.items, map cell_of cs))) c.deref-3.ensures.value)
    c.in_ok-write_question.ensures e) c.symbol-2.ensures.ok
