use Rattle.std.proofs.Common.{◌≡◌, drop}
use Rattle.std.specs.List.{list_any}
use Rattle.search_moves.specs.States.{works_on}
use Rattle.search_moves.proofs.ways.was_worked_on.Given as goal

abbrev pub invariant-loop-node : goal.invariant-loop-node
invariant-loop-node l = list_any (works_on l.line) (drop l.node-index l.made) ≡ list_any (works_on l.line) l.made
