use Rattle.std.proofs.Common.{◌≡◌, ◌++◌, map, take}
use Rattle.script_formulas.specs.Shifting.{shift_term, in_atom}
use Rattle.script_formulas.proofs.cases.shifting.push_atoms.Given as goal

abbrev pub invariant-loop-atom : goal.invariant-loop-atom
invariant-loop-atom l = l.heap.items ≡ l.fn.heap.items
    ++ map (in_atom (shift_term l.depth l.by)) (take l.atom-index l.atoms)
