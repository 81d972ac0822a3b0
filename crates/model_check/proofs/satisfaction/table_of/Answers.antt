use Rattle.std.proofs.Common.{sym, subst}
use Rattle.std.proofs.lemmas.Result.{IfOk-weaker}
use Rattle.model_check.specs.Ground.{IsSolved}
use Rattle.model_check.specs.Tables.{HasMask}
use Rattle.model_check.proofs.Exact.{heads_fit_at}
use Rattle.model_check.proofs.satisfaction.table_of.Goals as goal

pub solve-requires : goal.solve-requires
solve-requires c =
    heads_fit_at c.args.defs.now.list c.args.cells.now c.args.places.now.keys c.ground_questions.new.questions.keys
    c.ground_questions.new.rules.items c.deref.result.now c.len.result (sym c.len.ensures.len)
    c.deref.ensures.value c.in_ok-ground_questions.ensures.grounds

pub returns : goal.returns
returns c =
    IfOk-weaker c.solve.result _ _ (λ table s. (
      c.ground_questions.new.rules.items,
      c.in_ok-ground_questions.ensures.extends,
      c.in_ok-ground_questions.ensures.grounds,
      subst (λ rules. IsSolved rules (HasMask table.items)) c.deref.ensures.value s,
    )) c.solve.ensures
