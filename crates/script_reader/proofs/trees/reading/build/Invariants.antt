use Rattle.std.proofs.Common.{◌≡◌, ◌≤◌, ◌-◌, length, vec_len, drop}
use Rattle.script_reader.specs.Faults.{first_unfit, unfit_from}
use Rattle.script_reader.specs.Tokens.{tokens_from}
use Rattle.script_reader.proofs.Growing.{IsBuilding}
use Rattle.script_reader.proofs.trees.reading.build.Given as goal

abbrev pub invariant-pieces : goal.invariant-pieces
invariant-pieces l = record {
  within : l.at ≤ length l.bytes;
  same : unfit_from (length l.bytes) (vec_len l.building.open) l.building.begun (tokens_from l.at 0 (drop l.at l.bytes))
      ≡ first_unfit l.bytes;
  spelled : IsBuilding l.bytes l.building.nodes.items l.building.open.items l.at;
}

abbrev pub decreases-pieces : goal.decreases-pieces
decreases-pieces l = length l.bytes - l.at
