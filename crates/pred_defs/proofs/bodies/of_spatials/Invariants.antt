use Rattle.std.proofs.Common.{◌≡◌, ◌+◌, ◌≤◌, map, take, drop}
use Rattle.heap_formula.specs.Words.{max_of}
use Rattle.heap_formula.specs.Fresh.{spatial_exists}
use Rattle.heap_formula.specs.Substitution.{in_spatial}
use Rattle.pred_defs.specs.Bodies.{body_term, first_fresh}
use Rattle.pred_defs.proofs.bodies.of_spatials.Given as goal

abbrev pub invariant-loop-atom : goal.invariant-loop-atom
invariant-loop-atom l = (l.made.items ≡ map (in_spatial (body_term l.args l.fresh)) (take l.atom-index l.atoms))
    × (first_fresh l.fresh + max_of (map spatial_exists (drop l.atom-index l.atoms)) ≤ 65536)
