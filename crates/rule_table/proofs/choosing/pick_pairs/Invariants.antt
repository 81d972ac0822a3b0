use Rattle.std.proofs.Common.{◌≡◌, ◌≤◌, ◌++◌, drop}
use Rattle.rule_table.specs.Choosing.{chosen_pairs, taken}
use Rattle.rule_table.proofs.choosing.pick_pairs.Given as goal

abbrev pub invariant-loop-i : goal.invariant-loop-i
invariant-loop-i l = (l.pairs ++ chosen_pairs (taken l.outside l.places) l.i l.count (drop l.i l.atoms)
    ≡ chosen_pairs (taken l.outside l.places) 0 0 l.atoms) × (l.count ≤ l.i)
