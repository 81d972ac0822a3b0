use Rattle.std.proofs.Common.{◌≡◌, drop}
use Rattle.search_moves.specs.Places.{first_from}
use Rattle.search_moves.specs.Entailments.{rewrite_at, side_of, rewrites}
use Rattle.search_moves.proofs.places.rewrites.Given as goal

abbrev pub invariant-loop-k : goal.invariant-loop-k
invariant-loop-k l = first_from (λ k x. rewrite_at k (side_of x)) l.k (drop l.k l.pures) ≡ rewrites l.pures
