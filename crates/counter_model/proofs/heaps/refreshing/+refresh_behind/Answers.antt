use Rattle.std.proofs.Common.{◌≡◌, ◌||◌, ◌-◌, ◌++◌, List, ℕ, sym, ◌∙◌, subst, arith}
use Rattle.std.proofs.lemmas.Result.{IfOk-weaker}
use Rattle.heap_formula.specs.declared.atoms.Pure.{Pure}
use Rattle.heap_formula.specs.Words.{Each}
use Rattle.heap_formula.specs.Cells.{Cells}
use Rattle.heap_formula.specs.Meaning.{PureHolds}
use Rattle.counter_model.specs.Findings.{IsFound, found_if_asked, FitsBehind, UnlessGrown}
use Rattle.counter_model.proofs.Complete.{not_both}
use Rattle.counter_model.proofs.Loops.{either_true, either_false}
use Rattle.counter_model.proofs.Turns.{unchanged}
use Rattle.counter_model.proofs.Locals.{none_behind, value_tried, all_tried}
use Rattle.counter_model.proofs.heaps.refreshing.+refresh_behind.Goals.{then-grown, else-grown}
use Rattle.counter_model.proofs.heaps.refreshing.+refresh_behind.Goals as goal

pub loop-value-init : goal.loop-value-init
loop-value-init t c = unchanged c.args.table.now (λ h u lt k. absurd (omega arith))

pub loop-value-preserved : goal.loop-value-preserved
loop-value-preserved t c =
    let n = c.args.greatest in
    let b : c.if-grown.grown ≡ (c.loop-value.grown || c.in_ok-is_new.is_new) = elim c.if-grown.branch [
      | then-grown w ↦ either_true _ _ _ w.if-grown.true w.grown-is
      | else-grown w ↦ either_false _ _ _
          w.if-grown.false w.grown-is
    ] in
    value_tried n c.args.q c.args.values.now c.args.case.now c.args.locals.now c.args.table.now c.loop-value.table
    c.refresh_behind.new.table c.loop-value.grown c.in_ok-is_new.is_new c.if-grown.grown b (c.args.left - 1)
    c.loop-value.value c.loop-value.invariant
    (subst (λ (e : List ℕ). UnlessGrown c.in_ok-is_new.is_new c.loop-value.table c.refresh_behind.new.table
    ((h : Cells) → FitsBehind n (found_if_asked n c.loop-value.table) c.args.values.now h c.args.case.now e
    (c.args.left - 1) → IsFound n c.loop-value.table c.args.q h)) (c.deref.ensures.value ∙ c.in_ok-longer.ensures)
    c.in_ok-is_new.ensures)

pub returns : goal.returns
returns t c =
    all_tried c.args.greatest c.args.q c.args.values.now c.args.case.now c.args.locals.now c.args.table.now
    c.loop-value.table c.loop-value.grown c.args.left c.loop-value.value (omega arith) (omega arith)
    c.loop-value.invariant

pub returns-then-not-may_all_hold : goal.returns-then-not-may_all_hold
returns-then-not-may_all_hold t c =
    unchanged c.args.table.now (λ h k. absurd (not_both c.may_all_hold.result
    (c.may_all_hold.ensures k.behind (subst (λ (ps : List Pure). Each
    (PureHolds c.args.values.now (c.args.locals.now ++ k.behind)) ps) (sym c.pure.ensures.value) k.holds.0))
    c.if-not-may_all_hold.true))

pub returns-then-left-eq0 : goal.returns-then-left-eq0
returns-then-left-eq0 t c =
    let n = c.args.greatest in
    IfOk-weaker c.refresh_at.result _ _
    (λ grown h.
    none_behind n c.args.q c.args.values.now c.args.case.now c.args.locals.now c.args.table.now
    c.refresh_at.new.table grown c.args.left c.if-left-eq0.true h) c.refresh_at.ensures
