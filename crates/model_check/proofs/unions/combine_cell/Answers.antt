use Rattle.std.proofs.lemmas.Result.{IfOk-weaker}
use Rattle.model_check.proofs.Loops.{cell_joined}
use Rattle.model_check.proofs.unions.combine_cell.Goals as goal

pub returns : goal.returns
returns c =
    IfOk-weaker c.combine.result _ _
    (λ out k m.
    cell_joined c.in_ok-part.part c.args.place c.from_ref.result.now c.args.others.now out m
    c.from_ref.ensures.value c.in_ok-part.ensures (k m)) c.combine.ensures
