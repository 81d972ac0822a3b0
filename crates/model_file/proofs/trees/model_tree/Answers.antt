use Rattle.std.proofs.Common.{List, ℕ, sym, subst}
use Rattle.heap_formula.specs.Words.{Each}
use Rattle.model_file.specs.Small.{IsShortNumber}
use Rattle.model_file.specs.Written.{tree_of}
use Rattle.model_file.proofs.ModelsAgain.{model_short}
use Rattle.model_file.proofs.trees.model_tree.Goals as goal

pub narrow_numbers-requires : goal.narrow_numbers-requires
narrow_numbers-requires c =
    let m = c.args.model.now in
    subst (λ (ns : List ℕ). Each IsShortNumber ns) (sym c.as_slice.ensures)
    (model_short (tree_of m.version m.defs.list m.stack m.heap m.ask) m.fits).0

pub cells-requires : goal.cells-requires
cells-requires c =
    let m = c.args.model.now in
    (model_short (tree_of m.version m.defs.list m.stack m.heap m.ask) m.fits).1
