-- Ends that fit the values' types.
use Rattle.std.specs.Prelude.{◌<◌, ◌≤◌, length}
use Rattle.cyc_basics.specs.declared.limits.TheConstants.{MOST_DISJUNCTS}
use Rattle.heap_formula.specs.declared.terms.Term.{Term}
use Rattle.heap_formula.specs.Words.{Each}
use Rattle.heap_syntax.specs.EndTrees.{End}
use Rattle.heap_reader.specs.Small.{IsSmallHeap}

pub record IsSmallEnd {T : Type 0} (value : T → Term) (e : End T) : Type 0 where
  pub heaps : Each (IsSmallHeap value) e.disjuncts
  pub some : 0 < length e.disjuncts
  pub few : length e.disjuncts ≤ MOST_DISJUNCTS
