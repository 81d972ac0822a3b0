use Rattle.std.proofs.Common.{◌≡◌, drop}
use Rattle.search_moves.specs.Places.{each_of, if_some}
use Rattle.search_moves.specs.Entailments.{argument_instance, arguments_with}
use Rattle.search_moves.specs.Instances.{rules_once}
use Rattle.search_moves.proofs.instances.push_argument_rules.Given as goal

abbrev pub invariant-loop-atom : goal.invariant-loop-atom
invariant-loop-atom l = rules_once l.rules.items (each_of (λ x. if_some (argument_instance x l.right))
    (drop l.atom-index l.left)) ≡ rules_once l.initial.rules.items (arguments_with l.left l.right)
