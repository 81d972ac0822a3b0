use Rattle.std.proofs.Common.{◌⊎◌, drop}
use Rattle.heap_formula.specs.Words.{OneOf}
use Rattle.heap_formula.specs.Cells.{Cells}
use Rattle.counter_model.specs.Findings.{IsFound, found_if_asked, FitsCase, UnlessGrown}
use Rattle.counter_model.proofs.heaps.refreshing.refresh_cases.Given as goal

abbrev pub invariant-loop-case : goal.invariant-loop-case
invariant-loop-case l =
    UnlessGrown l.grown l.initial.table l.table ((h : Cells)
    → OneOf (FitsCase l.greatest (found_if_asked l.greatest l.initial.table) l.values h) l.cases
    → IsFound l.greatest l.initial.table l.q h ⊎ OneOf (FitsCase l.greatest
    (found_if_asked l.greatest l.initial.table) l.values h) (drop l.case-index l.cases))
