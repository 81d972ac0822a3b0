use Rattle.std.proofs.Common.{◌≡◌, ◌++◌, map, drop}
use Rattle.fo_formula.specs.Words.{in_atom}
use Rattle.fo_rules.specs.Putting.{put}
use Rattle.fo_rules.proofs.parts.building.push_changed.Given as goal

abbrev pub invariant-loop-atom : goal.invariant-loop-atom
invariant-loop-atom l = l.all.items ++ map (in_atom (put l.change)) (drop l.atom-index l.atoms) ≡ l.initial.all.items
    ++ map (in_atom (put l.change)) l.atoms
