use Rattle.std.proofs.Common.{◌≤◌, ◌-◌, length}
use Rattle.script_reader.proofs.trees.places.tokens_before.Given as goal

abbrev pub invariant-pieces : goal.invariant-pieces
invariant-pieces l = record { within : l.at ≤ length l.bytes; few : l.count ≤ l.at }

abbrev pub decreases-pieces : goal.decreases-pieces
decreases-pieces l = length l.bytes - l.at
