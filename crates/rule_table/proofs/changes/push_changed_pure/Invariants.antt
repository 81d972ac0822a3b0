use Rattle.std.proofs.Common.{◌≡◌, ◌++◌, map, drop}
use Rattle.heap_formula.specs.Substitution.{in_pure}
use Rattle.rule_table.specs.Changes.{changed}
use Rattle.rule_table.proofs.changes.push_changed_pure.Given as goal

abbrev pub invariant-loop-atom : goal.invariant-loop-atom
invariant-loop-atom l = l.all.items ++ map (in_pure (changed l.change)) (drop l.atom-index l.atoms)
    ≡ l.initial.all.items ++ map (in_pure (changed l.change)) l.atoms
