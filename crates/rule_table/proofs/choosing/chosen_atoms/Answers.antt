use Rattle.std.proofs.Common.{◌≡◌, subst}
use Rattle.std.specs.Prelude.{IfOk}
use Rattle.heap_formula.specs.declared.atoms.Spatial.{Spatial}
use Rattle.std.proofs.Common.{List}
use Rattle.rule_table.specs.Choosing.{taken}
use Rattle.rule_table.proofs.Chooses.{chosen_is}
use Rattle.rule_table.proofs.choosing.chosen_atoms.Goals as goal

pub returns-clause-value : goal.returns-clause-value
returns-clause-value c =
    subst (λ (xs : List Spatial). IfOk c.pick_atoms.result (λ v. v.items ≡ xs))
    (chosen_is (taken c.args.outside c.args.places.now) c.args.atoms.now) c.pick_atoms.ensures.value
