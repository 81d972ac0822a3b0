use Rattle.std.proofs.Common.{◌≡◌, drop, map}
use Rattle.fo_formula.specs.Words.{in_atom}
use Rattle.fo_formula.specs.LinkTable.{map_place}
use Rattle.fo_rules.specs.Putting.{put}
use Rattle.fo_rules.proofs.linking.map_place.Given as goal

abbrev pub invariant-loop-k : goal.invariant-loop-k
invariant-loop-k l =
    map_place l.bud l.k (drop l.k l.entries) (map (in_atom (put l.change)) (drop l.k l.atoms))
    ≡ map_place l.bud 0 l.entries (map (in_atom (put l.change)) l.atoms)
