use Rattle.std.proofs.Common.{◌≡◌, drop, []}
use Rattle.search_moves.specs.Places.{each_of}
use Rattle.search_moves.specs.Entailments.{arguments_with}
use Rattle.search_moves.specs.Instances.{rules_once}
use Rattle.search_moves.proofs.instances.argument_rules.Given as goal

abbrev pub invariant-loop-atom : goal.invariant-loop-atom
invariant-loop-atom l = rules_once l.rules.items (each_of (arguments_with l.left) (drop l.atom-index l.right))
    ≡ rules_once [] (each_of (arguments_with l.left) l.right)
