use Rattle.std.proofs.Common.{◌≡◌, ◌≤◌, drop, length}
use Rattle.search_moves.specs.Entailments.{first_instance}
use Rattle.search_moves.proofs.instances.first_instance.Given as goal

abbrev pub invariant-loop-k : goal.invariant-loop-k
invariant-loop-k l = (first_instance (drop l.k l.terms) (drop l.k l.others) ≡ first_instance l.terms l.others)
    × (l.k ≤ length l.others)
