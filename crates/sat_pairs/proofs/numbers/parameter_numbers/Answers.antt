use Rattle.std.proofs.Common.{map, ◌∷◌}
use Rattle.heap_formula.specs.declared.terms.Term.TheVariants.{Nil}
use Rattle.pair_family.specs.Classes.{term_number}
use Rattle.heap_formula.specs.Fresh.{variables_from}
use Rattle.sat_pairs.proofs.Counting.{parameter_step}
use Rattle.sat_pairs.proofs.numbers.parameter_numbers.Goals as goal

pub loop-i-preserved : goal.loop-i-preserved
loop-i-preserved c =
    parameter_step c.loop-i.numbers.items c.push-in-loop-i.new.self.items
    (map term_number (Nil ∷ variables_from 0 c.args.k))
    c.loop-i.i c.args.k c.loop-i-test.true c.loop-i.invariant c.in_ok-push-2.ensures.items
