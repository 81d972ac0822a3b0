use Rattle.std.proofs.Common.{◌∙◌}
use Rattle.std.proofs.lemmas.Result.{IfOk-weaker}
use Rattle.search_moves.specs.Trying.{is_applicable}
use Rattle.search_moves.specs.Settings.{theory_of}
use Rattle.search_moves.proofs.Keeping.{first_of_filter}
use Rattle.search_moves.proofs.setting.first_that_goes.Goals as goal

pub returns : goal.returns
returns c =
    IfOk-weaker c.first_that_go.result _ _ (λ v is. is ∙ first_of_filter
    (is_applicable (theory_of c.args.at.now) c.args.at.now.judgement.now) c.args.rules.items)
    c.first_that_go.ensures
