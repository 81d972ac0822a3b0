use Rattle.std.proofs.Common.{◌≡◌, ◌++◌, drop, map}
use Rattle.search_moves.specs.Places.{each_of, if_some}
use Rattle.search_moves.specs.Entailments.{equation_instance, equation_instances, instance_rule}
use Rattle.search_moves.proofs.instances.equation_rules.Given as goal

abbrev pub invariant-loop-atom : goal.invariant-loop-atom
invariant-loop-atom l = l.rules.items ++ map instance_rule (each_of (λ x. if_some (equation_instance x))
    (drop l.atom-index l.pures)) ≡ map instance_rule (equation_instances l.pures)
