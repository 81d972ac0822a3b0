use Rattle.std.proofs.Common.{ap, map, ◌∙◌, List}
use Rattle.heap_syntax.specs.declared.definitions.tree.DefinitionTree.{DefinitionTree}
use Rattle.proof_syntax.specs.Trees.{definition_of}
use Rattle.proof_file.specs.Flaws.{headings}
use Rattle.file_reader.proofs.first_node.begun.Goals as goal

pub begun_with-requires-clause-known : goal.begun_with-requires-clause-known
begun_with-requires-clause-known c = c.in_ok-heads.ensures
    ∙ ap (λ (xs : List DefinitionTree). headings (map definition_of xs)) c.deref.ensures.value
