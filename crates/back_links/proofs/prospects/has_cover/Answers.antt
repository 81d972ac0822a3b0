use Rattle.std.proofs.Common.{sym, ◌∙◌, length}
use Rattle.std.specs.Prelude.{slice_get}
use Rattle.heap_formula.specs.Substitution.{apply_heap}
use Rattle.rule_table.specs.LinkTable.{covers_some}
use Rattle.back_links.proofs.Selecting.{any_next}
use Rattle.back_links.proofs.prospects.has_cover.Goals as goal

pub loop-m-preserved : goal.loop-m-preserved
loop-m-preserved c =
    any_next (λ m. covers_some (apply_heap c.args.subst.now c.args.c.now) (slice_get c.args.disjuncts.now m)) c.loop-m.m
    (length c.args.disjuncts.now) _ c.loop-m-test.true (sym c.covers_at.ensures ∙ c.if-covers_at.false)
    c.loop-m.invariant
