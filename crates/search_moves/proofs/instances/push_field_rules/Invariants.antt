use Rattle.std.proofs.Common.{◌≡◌, ◌++◌, drop, map}
use Rattle.search_moves.specs.Places.{each_of, if_some}
use Rattle.search_moves.specs.Entailments.{field_instance, fields_with, instance_rule}
use Rattle.search_moves.proofs.instances.push_field_rules.Given as goal

abbrev pub invariant-loop-atom : goal.invariant-loop-atom
invariant-loop-atom l = l.rules.items ++ map instance_rule (each_of (λ y. if_some (field_instance l.left y))
    (drop l.atom-index l.right)) ≡ l.initial.rules.items ++ map instance_rule (fields_with l.right l.left)
