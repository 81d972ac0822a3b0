use Rattle.std.proofs.Common.{◌≡◌, map, take, length}
use Rattle.script_formulas.specs.Shifting.{shift_term}
use Rattle.script_formulas.proofs.cases.shifting.shifted_args.Given as goal

abbrev pub invariant-loop-i : goal.invariant-loop-i
invariant-loop-i l = (length l.made ≡ 8) × (take l.i l.made ≡ map (shift_term l.depth l.by) (take l.i l.args))
