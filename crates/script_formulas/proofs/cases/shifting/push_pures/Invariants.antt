use Rattle.std.proofs.Common.{◌≡◌, ◌++◌, map, take}
use Rattle.heap_formula.specs.Substitution.{in_pure}
use Rattle.script_formulas.specs.Shifting.{shift_term}
use Rattle.script_formulas.proofs.cases.shifting.push_pures.Given as goal

abbrev pub invariant-loop-atom : goal.invariant-loop-atom
invariant-loop-atom l = l.pures.items ≡ l.fn.pures.items
    ++ map (in_pure (shift_term l.depth l.by)) (take l.atom-index l.atoms)
