use Rattle.std.proofs.Common.{◌≡◌, ◌||◌, subst, List}
use Rattle.heap_formula.specs.declared.atoms.Spatial.{Spatial}
use Rattle.heap_formula.specs.Cells.{Cells}
use Rattle.heap_formula.specs.Meaning.{SpatialHolds}
use Rattle.counter_model.specs.Bounds.{IsAmong}
use Rattle.counter_model.specs.Findings.{Findings, IsFound, found_if_asked, UnlessGrown}
use Rattle.counter_model.proofs.Loops.{either_true, either_false}
use Rattle.counter_model.proofs.Turns.{both_steps}
use Rattle.counter_model.proofs.heaps.refreshing.refresh_at.Goals.{then-is_new, else-is_new}
use Rattle.counter_model.proofs.heaps.refreshing.refresh_at.Goals as goal

pub returns : goal.returns
returns c =
    let b : c.if-is_new.result ≡ (c.in_ok-heaps.is_new || c.in_ok-grown.grown) = elim c.if-is_new.branch [
      | then-is_new w ↦ either_true _ _ _ w.if-is_new.true w.result-is
      | else-is_new w ↦ either_false _ _ _
          w.if-is_new.false w.result-is
    ] in
    let n = c.args.greatest in
    let P = λ (t : Findings). (h : Cells) → SpatialHolds (λ _. found_if_asked n t)
    c.args.values.now c.args.locals.now c.args.case.now.spatial h → IsAmong n c.in_ok-heaps.heaps h in
    let Q = λ (t : Findings). (h : Cells) → IsAmong n c.in_ok-heaps.heaps h → IsFound n t c.args.q h in
    let R = λ (t : Findings). (h : Cells) → SpatialHolds (λ _. found_if_asked n t)
    c.args.values.now c.args.locals.now c.args.case.now.spatial h → IsFound n t c.args.q h in
    let first : UnlessGrown c.in_ok-heaps.is_new c.args.table.now c.unions.new.table (P c.args.table.now) = subst
    (λ (xs : List Spatial). UnlessGrown c.in_ok-heaps.is_new c.args.table.now c.unions.new.table
    ((h : Cells) → SpatialHolds (λ _. found_if_asked n c.args.table.now) c.args.values.now c.args.locals.now xs h
    → IsAmong n c.in_ok-heaps.heaps h)) c.spatial.ensures.value c.in_ok-heaps.ensures in
    let second : UnlessGrown c.in_ok-grown.grown c.unions.new.table c.add_all.new.table (Q c.unions.new.table) = subst
    (λ (hs : List Cells). UnlessGrown c.in_ok-grown.grown c.unions.new.table c.add_all.new.table
    ((h : Cells) → IsAmong n hs h → IsFound n c.unions.new.table c.args.q h))
    c.as_slice.ensures c.in_ok-grown.ensures in
    both_steps c.args.table.now c.unions.new.table c.add_all.new.table c.in_ok-heaps.is_new c.in_ok-grown.grown
    c.if-is_new.result b P Q R (λ t f g h o. g h (f h o)) first second
