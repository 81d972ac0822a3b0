use Rattle.std.proofs.Common.{◌∙◌}
use Rattle.std.proofs.lemmas.Result.{IfOk-weaker}
use Rattle.fo_search.specs.Trying.{is_applicable}
use Rattle.search_moves.proofs.Keeping.{first_of_filter}
use Rattle.fo_search.proofs.moves.trying.first_that_goes.Goals as goal

pub returns : goal.returns
returns c =
    IfOk-weaker c.first_that_go.result _ _ (λ v is. is ∙ first_of_filter
    (is_applicable c.args.theory.now c.args.sequent.now) c.args.rules.items) c.first_that_go.ensures
