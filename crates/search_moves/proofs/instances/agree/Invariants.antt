use Rattle.std.proofs.Common.{◌≡◌, ◌≤◌, drop, length}
use Rattle.search_moves.specs.Entailments.{agree}
use Rattle.search_moves.proofs.instances.agree.Given as goal

abbrev pub invariant-loop-k : goal.invariant-loop-k
invariant-loop-k l = (agree (drop l.k l.terms) (drop l.k l.others) ≡ agree l.terms l.others) × (l.k ≤ length l.others)
