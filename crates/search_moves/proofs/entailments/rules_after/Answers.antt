use Rattle.std.proofs.Common.{◌∙◌}
use Rattle.std.proofs.lemmas.Result.{IfOk-weaker}
use Rattle.search_moves.specs.Settings.{theory_of}
use Rattle.search_moves.proofs.OneDisjunct.{one_disjunct}
use Rattle.search_moves.proofs.entailments.rules_after.Goals as goal

pub returns-in-len1 : goal.returns-in-len1
returns-in-len1 c =
    IfOk-weaker c.offers_from.result _ _ (λ v is. is ∙ one_disjunct (theory_of c.args.at.now)
    c.args.at.now.judgement.now c.args.left.now c.args.heaps.now c.right-item.result c.in-len1.len_at_least
    c.in-len1.len_below c.right-item.is) c.offers_from.ensures
