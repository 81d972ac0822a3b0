use Rattle.std.proofs.Common.{drop}
use Rattle.heap_formula.specs.Cells.{Cells, Star}
use Rattle.heap_formula.specs.Meaning.{SpatialHolds}
use Rattle.counter_model.specs.Bounds.{IsAmong}
use Rattle.counter_model.specs.Findings.{found_if_asked, UnlessGrown}
use Rattle.counter_model.proofs.heaps.asking.unions.Given as goal

abbrev pub invariant-loop-atom : goal.invariant-loop-atom
invariant-loop-atom l =
    UnlessGrown l.asked l.initial.table l.table ((h : Cells)
    → SpatialHolds (λ _. found_if_asked l.greatest l.initial.table) l.stack l.locals l.atoms h
    → Star (IsAmong l.greatest l.heaps) (SpatialHolds (λ _. found_if_asked l.greatest l.initial.table)
    l.stack l.locals (drop l.atom-index l.atoms)) h)
