use Rattle.std.proofs.Common.{◌≡◌, ◌||◌, arith}
use Rattle.counter_model.specs.Findings.{IsFound, found_if_asked, FitsCase}
use Rattle.counter_model.proofs.Loops.{either_true, either_false}
use Rattle.counter_model.proofs.Turns.{grown_turn, grown_end}
use Rattle.counter_model.proofs.heaps.refreshing.refresh_cases.Goals.{then-grown, else-grown}
use Rattle.counter_model.proofs.heaps.refreshing.refresh_cases.Goals as goal

pub loop-case-preserved : goal.loop-case-preserved
loop-case-preserved c =
    let n = c.args.greatest in
    let b : c.if-grown.grown ≡ (c.loop-case.grown || c.in_ok-is_new.is_new) = elim c.if-grown.branch [
      | then-grown w ↦ either_true _ _ _ w.if-grown.true w.grown-is
      | else-grown w ↦ either_false _ _ _
          w.if-grown.false w.grown-is
    ] in
    grown_turn c.args.table.now c.loop-case.table c.refresh_case.new.table c.loop-case.grown c.in_ok-is_new.is_new
    c.if-grown.grown b (λ t h. IsFound n t c.args.q h) (λ t x h.
    FitsCase n (found_if_asked n t) c.args.values.now h x)
    c.args.cases.now c.loop-case.case-index c.case-item.result (omega arith)
    c.case-item.is c.loop-case.invariant c.in_ok-is_new.ensures

pub returns : goal.returns
returns c =
    let n = c.args.greatest in
    grown_end c.args.table.now c.loop-case.table c.loop-case.grown (IsFound n c.args.table.now c.args.q)
    (λ x h. FitsCase n (found_if_asked n c.args.table.now) c.args.values.now h x)
    c.args.cases.now c.loop-case.case-index (omega arith) c.loop-case.invariant
