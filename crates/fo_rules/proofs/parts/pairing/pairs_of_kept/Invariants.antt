use Rattle.std.proofs.Common.{◌≡◌, ◌++◌, drop}
use Rattle.heap_formula.specs.Positions.{before}
use Rattle.fo_formula.specs.Traces.{pairs_from}
use Rattle.fo_rules.proofs.parts.pairing.pairs_of_kept.Given as goal

abbrev pub invariant-loop-new : goal.invariant-loop-new
invariant-loop-new l = l.pairs ++ pairs_from (before l.i) l.new (drop l.new l.kept) ≡ pairs_from (before l.i) 0 l.kept
