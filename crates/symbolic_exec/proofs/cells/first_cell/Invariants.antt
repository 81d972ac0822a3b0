use Rattle.std.proofs.Common.{◌≡◌, drop}
use Rattle.symbolic_exec.specs.Cells.{cell_from}
use Rattle.symbolic_exec.proofs.cells.first_cell.Given as goal

abbrev pub invariant-loop-place : goal.invariant-loop-place
invariant-loop-place l = cell_from l.place l.pures l.t (drop l.place l.atoms) ≡ cell_from 0 l.pures l.t l.atoms
