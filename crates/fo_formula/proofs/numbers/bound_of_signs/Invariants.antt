use Rattle.std.proofs.Common.{◌≡◌, ◌≤◌, map, drop}
use Rattle.std.specs.Prelude.{max}
use Rattle.heap_formula.specs.Words.{max_of}
use Rattle.fo_formula.specs.Bounds.{sign_bound}
use Rattle.fo_formula.proofs.numbers.bound_of_signs.Given as goal

abbrev pub invariant-loop-sign : goal.invariant-loop-sign
invariant-loop-sign l = (l.most ≤ 65536) × (max l.most (max_of (map (sign_bound l.kind) (drop l.sign-index l.signs)))
    ≡ max_of (map (sign_bound l.kind) l.signs))
