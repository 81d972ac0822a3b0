use Rattle.std.proofs.Common.{◌≡◌, subst, List}
use Rattle.std.specs.Prelude.{IfOk}
use Rattle.heap_formula.specs.declared.judgements.Pair.{Pair}
use Rattle.rule_table.specs.Choosing.{taken}
use Rattle.rule_table.proofs.Chooses.{pairs_are}
use Rattle.rule_table.proofs.choosing.chosen_pairs.Goals as goal

pub returns : goal.returns
returns c =
    subst (λ (xs : List Pair). IfOk c.pick_pairs.result (λ v. v ≡ xs))
    (pairs_are (taken c.args.outside c.args.places.now) c.args.atoms.now) c.pick_pairs.ensures
