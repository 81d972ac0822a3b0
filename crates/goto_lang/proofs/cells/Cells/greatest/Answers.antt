use Rattle.std.proofs.Common.{◌∙◌, sym, ap}
use Rattle.heap_formula.specs.Words.{max_of}
use Rattle.heap_formula.specs.Programs.{cell_numbers}
use Rattle.goto_lang.proofs.Maps.{entries_are}
use Rattle.goto_lang.proofs.cells.Cells.greatest.Goals as goal

pub returns : goal.returns
returns c =
    rw (← c.self.view_is) (c.greatest_in.ensures.value ∙ ap (λ es. max_of (cell_numbers es))
    (sym (entries_are c.self.inside.cells.entries c.greatest_in.ensures.ordered)))
