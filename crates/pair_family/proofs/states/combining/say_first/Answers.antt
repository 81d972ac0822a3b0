use Rattle.std.proofs.Common.{◌≡◌, subst}
use Rattle.std.proofs.lemmas.Result.{IfOk-weaker}
use Rattle.pair_family.specs.Labels.{said_by}
use Rattle.pair_family.proofs.Rows.{labels_first}
use Rattle.pair_family.proofs.states.combining.say_first.Goals as goal

pub returns : goal.returns
returns c =
    let labels = c.args.labels.now in
    let first = labels_first labels c.args.numbers.now c.requires.first c.requires.few in
    IfOk-weaker c.say.result _ _ (λ k h. subst (λ z. k ≡ said_by z c.args.differences.now c.args.cells.now) first h)
    c.say.ensures
