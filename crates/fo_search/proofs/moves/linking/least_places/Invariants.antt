use Rattle.std.proofs.Common.{◌≡◌, ◌++◌, drop, map}
use Rattle.fo_formula.specs.Words.{in_atom}
use Rattle.fo_rules.specs.Putting.{put}
use Rattle.fo_search.specs.Links.{least_place}
use Rattle.fo_search.proofs.moves.linking.least_places.Given as goal

abbrev pub invariant-loop-atom : goal.invariant-loop-atom
invariant-loop-atom l = l.places.items ++ map (λ x. least_place l.others (in_atom (put l.change) x))
    (drop l.atom-index l.atoms) ≡ map (λ x. least_place l.others (in_atom (put l.change) x)) l.atoms
