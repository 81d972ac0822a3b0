use Rattle.std.proofs.Common.{◌≡◌, ◌++◌, map, drop}
use Rattle.proof_picture.specs.Carried.{flags_of}
use Rattle.proof_picture.specs.Kept.{first_ways}
use Rattle.proof_picture.proofs.names.kept.first_ways.Given as goal

abbrev pub invariant-loop-v : goal.invariant-loop-v
invariant-loop-v l = map flags_of l.ways.items ++ first_ways l.count l.v (drop l.v l.nodes)
    ≡ first_ways l.count 0 l.nodes
