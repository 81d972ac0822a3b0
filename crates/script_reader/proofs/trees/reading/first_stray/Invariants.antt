use Rattle.std.proofs.Common.{◌≡◌, ◌≤◌, ◌-◌, length, drop}
use Rattle.script_reader.specs.Tokens.{first_stray, stray_from}
use Rattle.script_reader.proofs.trees.reading.first_stray.Given as goal

abbrev pub invariant-pieces : goal.invariant-pieces
invariant-pieces l = record {
  within : l.at ≤ length l.bytes;
  same : stray_from l.at 0 (drop l.at l.bytes) ≡ first_stray l.bytes;
}

abbrev pub decreases-pieces : goal.decreases-pieces
decreases-pieces l = length l.bytes - l.at
