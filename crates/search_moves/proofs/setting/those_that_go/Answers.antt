use Rattle.std.proofs.Common.{◌∙◌}
use Rattle.std.proofs.lemmas.Result.{IfOk-weaker}
use Rattle.search_moves.specs.Trying.{is_applicable}
use Rattle.search_moves.specs.Settings.{theory_of}
use Rattle.search_moves.proofs.Keeping.{kept_all}
use Rattle.search_moves.proofs.setting.those_that_go.Goals as goal

pub returns : goal.returns
returns c =
    IfOk-weaker c.first_that_go.result _ _ (λ v is. is ∙ kept_all
    (is_applicable (theory_of c.args.at.now) c.args.at.now.judgement.now) c.args.rules.items _
    (c.len-most.ensures ∙ c.args.rules.ok.0)) c.first_that_go.ensures
