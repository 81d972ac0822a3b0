-- How far words have come, without where it lies in memory.
use Rattle.proof_picture.specs.declared.spot.Spot.{Spot}
use Rattle.proof_picture.specs.Layout.{Place}

abbrev pub place_of : Spot → Place
place_of s = record { inside = s.inside; flags = s.flags.now; signs = s.signs; comma = s.comma }
