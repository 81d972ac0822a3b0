use Rattle.std.proofs.Common.{sym, subst}
use Rattle.model_check.specs.Ground.{IsSolved}
use Rattle.model_check.specs.Tables.{HasMask}
use Rattle.general_models.proofs.RangedRounds.{heads_within}
use Rattle.general_models.proofs.general.table_over.Goals as goal

pub solve-requires : goal.solve-requires
solve-requires c =
    heads_within c.args.range.now c.args.defs.now.list c.args.cells.now c.args.places.now.keys
    c.ground_all.new.questions.keys c.ground_all.new.rules.items c.deref.result.now c.len.result
    (sym c.len.ensures.len) c.deref.ensures.value c.in_ok-ground_all.ensures.grounds

pub returns : goal.returns
returns c = record {
  rules = c.ground_all.new.rules.items;
  extends = c.in_ok-ground_all.ensures.extends;
  grounds = c.in_ok-ground_all.ensures.grounds;
  solved = subst (λ rules. IsSolved rules (HasMask c.in_ok-table.table.items))
      c.deref.ensures.value c.in_ok-table.ensures;
}
