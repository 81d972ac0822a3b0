use Rattle.std.proofs.Common.{◌≡◌, ◌≤◌, ◌++◌, drop, length}
use Rattle.rule_table.specs.Choosing.{chosen_from, taken}
use Rattle.rule_table.proofs.choosing.pick_atoms.Given as goal

abbrev pub invariant-loop-i : goal.invariant-loop-i
invariant-loop-i l = (l.chosen.items ++ chosen_from (taken l.outside l.places) l.i (drop l.i l.atoms)
    ≡ chosen_from (taken l.outside l.places) 0 l.atoms) × (length l.chosen.items ≤ l.i)
