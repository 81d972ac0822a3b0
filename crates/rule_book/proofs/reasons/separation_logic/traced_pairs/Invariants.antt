use Rattle.std.proofs.Common.{◌≡◌, ◌++◌, drop}
use Rattle.proof_graph.specs.Traces.{trace_pairs_of}
use Rattle.rule_book.proofs.reasons.separation_logic.traced_pairs.Given as goal

abbrev pub invariant-loop-pair : goal.invariant-loop-pair
invariant-loop-pair l = l.triples.items ++ trace_pairs_of (drop l.pair-index l.pairs) ≡ trace_pairs_of l.pairs
