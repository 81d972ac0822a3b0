-- A tree fits the grammar of model files in one way.
use Rattle.std.specs.Prelude.{false, [], ◌∷◌}
use Rattle.std.specs.Coded.{×_prop, Unit-prop, le_prop}
use Rattle.cyc_grammar.specs.Syntax.{Class, one}
use Rattle.cyc_grammar.specs.Classes.{number}
use Rattle.heap_syntax.specs.Words.{comma, semicolon, closing}
use Rattle.heap_syntax.specs.Fits.{HasOneFit, many-fit, listed-fit, heap-fit, definition-fit}
use Rattle.heap_syntax.specs.DefinitionGrammar.{definition, definitions}
use Rattle.model_file.specs.Grammar.{numbers, values, cell, some_cell, cells1, cells, question, state, body, model}

numbers-fit : (behind : Class (Unit {0})) → HasOneFit (numbers behind)
unfolding numbers
numbers-fit behind ns = listed-fit 0 comma behind (one number) (λ n. le_prop) ns

values-fit : HasOneFit values
unfolding values
values-fit [] = ×_prop Unit-prop Unit-prop
values-fit (n ∷ ns) = ×_prop Unit-prop (numbers-fit semicolon (n ∷ ns))

cell-fit : HasOneFit cell
unfolding cell
cell-fit c = ×_prop Unit-prop (×_prop le_prop (numbers-fit closing c.fields))

cells-fit : HasOneFit cells
unfolding cells cells1
cells-fit [] = ×_prop Unit-prop Unit-prop
cells-fit (c ∷ cs) = ×_prop Unit-prop (listed-fit some_cell comma semicolon cell cell-fit (c ∷ cs))

pub model-fit : HasOneFit model
unfolding model body state question definitions
model-fit m =
    ×_prop Unit-prop (×_prop Unit-prop (×_prop (many-fit definition definition-fit m.definitions)
    (×_prop (×_prop (values-fit m.stack) (cells-fit m.cells)) (heap-fit false m.ask))))
