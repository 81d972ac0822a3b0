use Rattle.std.proofs.Common.{◌≡◌, ◌++◌, drop, map}
use Rattle.search_moves.specs.Places.{each_of}
use Rattle.search_moves.specs.Entailments.{fields_with, field_instances, instance_rule}
use Rattle.search_moves.proofs.instances.field_rules.Given as goal

abbrev pub invariant-loop-atom : goal.invariant-loop-atom
invariant-loop-atom l = l.rules.items ++ map instance_rule (each_of (fields_with l.right) (drop l.atom-index l.left))
    ≡ map instance_rule (field_instances l.left l.right)
