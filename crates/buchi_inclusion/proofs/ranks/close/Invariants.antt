use Rattle.std.proofs.Common.{◌≡◌, vec_len}
use Rattle.buchi_inclusion.proofs.ranks.close.Given as goal

abbrev pub invariant-loop-state : goal.invariant-loop-state
invariant-loop-state l = record {
  way : l.search.way ≡ l.initial.search.way;
  numbers : l.search.numbers ≡ l.initial.search.numbers;
}

abbrev pub decreases-loop-state : goal.decreases-loop-state
decreases-loop-state l = vec_len l.search.open
