use Rattle.std.proofs.Common.{◌≡◌, length}
use Rattle.search_moves.specs.States.{climbs}
use Rattle.search_moves.proofs.ways.came_by_exec.Given as goal

abbrev pub invariant-loop-left : goal.invariant-loop-left
invariant-loop-left l = climbs l.made l.left l.v ≡ climbs l.made (length l.made) l.parent

abbrev pub decreases-loop-left : goal.decreases-loop-left
decreases-loop-left l = l.left
