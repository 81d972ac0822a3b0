use Rattle.std.proofs.Common.{◌≡◌, ℕ, List, ◌++◌, length}
use Rattle.file_reader.specs.Helds.{parts_of, IsKept}
use Rattle.file_reader.specs.Pieces.{IsLost}
use Rattle.file_reader.proofs.feeding.feed.Given as goal

abbrev pub invariant-parts : goal.invariant-parts
invariant-parts l = (done : List ℕ) × (l.fn.piece ≡ done ++ l.rest) × IsKept (parts_of l.fn.held) done l.held
    × (IsLost (parts_of l.fn.held) → IsLost (parts_of l.held))

abbrev pub decreases-parts : goal.decreases-parts
decreases-parts l = length l.rest
