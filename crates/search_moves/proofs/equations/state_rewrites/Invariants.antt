use Rattle.std.proofs.Common.{◌≡◌, drop}
use Rattle.search_moves.specs.Places.{first_from}
use Rattle.search_moves.specs.States.{state_rewrite, state_rewrites}
use Rattle.search_moves.proofs.equations.state_rewrites.Given as goal

abbrev pub invariant-loop-k : goal.invariant-loop-k
invariant-loop-k l = first_from (state_rewrite l.p l.state) l.k (drop l.k l.state.pure) ≡ state_rewrites l.p l.state
