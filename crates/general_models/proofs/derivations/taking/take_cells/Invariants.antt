use Rattle.std.proofs.Common.{drop}
use Rattle.std.specs.Prelude.{◌↔◌}
use Rattle.heap_formula.specs.Cells.{Cells}
use Rattle.general_models.specs.Derivations.{AtomsLeave}
use Rattle.general_models.proofs.derivations.taking.take_cells.Given as goal

abbrev pub invariant-loop-atom : goal.invariant-loop-atom
invariant-loop-atom l = (g : Cells) → AtomsLeave l.stack l.locals l.atoms l.initial.left g
    ↔ AtomsLeave l.stack l.locals (drop l.atom-index l.atoms) l.left g
