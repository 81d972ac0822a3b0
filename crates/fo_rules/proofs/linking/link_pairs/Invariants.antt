use Rattle.std.proofs.Common.{◌≡◌, ◌++◌, drop}
use Rattle.std.specs.Prelude.{slice_index}
use Rattle.fo_formula.specs.Traces.{pairs_from}
use Rattle.fo_rules.proofs.linking.link_pairs.Given as goal

abbrev pub invariant-loop-k : goal.invariant-loop-k
invariant-loop-k l = l.pairs ++ pairs_from (slice_index l.entries) l.k (drop l.k l.atoms)
    ≡ pairs_from (slice_index l.entries) 0 l.atoms
