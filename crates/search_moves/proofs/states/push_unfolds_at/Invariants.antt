use Rattle.std.proofs.Common.{◌≡◌, ◌++◌, drop}
use Rattle.search_moves.specs.Places.{each_from}
use Rattle.search_moves.specs.States.{unfold_for, unfolds_at}
use Rattle.search_moves.proofs.states.push_unfolds_at.Given as goal

abbrev pub invariant-loop-k : goal.invariant-loop-k
invariant-loop-k l = l.rules.items ++ each_from (unfold_for l.state.pure l.term) l.k (drop l.k l.state.spatial)
    ≡ l.initial.rules.items ++ unfolds_at l.state l.term
