use Rattle.std.proofs.Common.{List, ◌≡◌, ◌∙◌, ap, subst}
use Rattle.std.specs.Prelude.{map}
use Rattle.cyc_grammar.specs.Giving.{Gives, with_front}
use Rattle.cyc_grammar.specs.Syntax.{Reading}
use Rattle.cyc_grammar.proofs.Loop.{with_front-nil}
use Rattle.heap_syntax.specs.DefinitionTrees.{Definition, definition_of}
use Rattle.heap_syntax.specs.DefinitionGrammar.{definitions}
use Rattle.heap_syntax.proofs.definitions.definition_list.definitions.Goals as goal

pub returns : goal.returns
returns c =
    let read = definitions.read c.args.cursor.now in
    let same : with_front (map definition_of c.new.result.items) read
    ≡ read = ap (λ (front : List Definition). with_front front read) (ap (map definition_of) c.new.ensures.items)
    ∙ with_front-nil read in
    subst (λ (r : Reading (List Definition)). Gives (λ x. (map definition_of x.items, c.more_definitions.new.cursor))
    c.more_definitions.result r) same c.more_definitions.ensures
