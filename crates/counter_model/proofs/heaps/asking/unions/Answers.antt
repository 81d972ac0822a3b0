use Rattle.std.proofs.Common.{arith, ◌≡◌, ◌||◌, subst, List, length, sym, ◌∙◌}
use Rattle.std.proofs.lemmas.Bool.{eqb-true}
use Rattle.heap_formula.specs.Cells.{Cells, Star}
use Rattle.heap_formula.specs.Meaning.{AtomHolds}
use Rattle.counter_model.specs.Bounds.{IsAmong}
use Rattle.counter_model.specs.Findings.{found_if_asked, UnlessGrown}
use Rattle.counter_model.proofs.Loops.{either_true, either_false}
use Rattle.counter_model.proofs.AtomSteps.{left_first, left_turn, left_none, left_end}
use Rattle.counter_model.proofs.Turns.{unchanged}
use Rattle.counter_model.proofs.heaps.asking.unions.Goals.{then-asked, else-asked}
use Rattle.counter_model.proofs.heaps.asking.unions.Goals as goal

pub loop-atom-init : goal.loop-atom-init
loop-atom-init c =
    unchanged c.args.table.now
    (left_first c.args.greatest c.args.stack.now c.args.locals.now c.args.atoms.now c.args.table.now
    c.in_ok-heaps.heaps c.in_ok-heaps.ensures)

pub returns-then-is_empty : goal.returns-then-is_empty
returns-then-is_empty c =
    left_none c.args.greatest c.args.stack.now c.args.locals.now c.args.atoms.now c.args.table.now c.loop-atom.table
    c.loop-atom.asked c.loop-atom.heaps c.loop-atom.atom-index
    (subst (λ (hs : List Cells). length hs ≡ 0) c.as_slice.ensures
    (eqb-true _ 0 (sym c.is_empty.ensures ∙ c.if-is_empty.true))) c.loop-atom.invariant

pub loop-atom-preserved : goal.loop-atom-preserved
loop-atom-preserved c =
    let b : c.if-asked.asked ≡ (c.loop-atom.asked || c.in_ok-more.is_new) = elim c.if-asked.branch [
      | then-asked w ↦ either_true _ _ _ w.if-asked.true w.asked-is
      | else-asked w ↦ either_false _ _ _
          w.if-asked.false w.asked-is
    ] in
    left_turn c.args.greatest c.args.stack.now c.args.locals.now c.args.atoms.now c.args.table.now c.loop-atom.table
    c.with_atom.new.table c.loop-atom.asked c.in_ok-more.is_new c.if-asked.asked b c.loop-atom.heaps
    c.in_ok-more.more c.loop-atom.atom-index c.atom-item.result (omega arith) c.atom-item.is c.loop-atom.invariant
    (subst (λ (hs : List Cells). UnlessGrown c.in_ok-more.is_new c.loop-atom.table c.with_atom.new.table
    ((h : Cells) → Star (IsAmong c.args.greatest hs) (AtomHolds (found_if_asked c.args.greatest c.loop-atom.table)
    c.args.stack.now c.args.locals.now c.atom-item.result) h → IsAmong c.args.greatest c.in_ok-more.more h))
    c.as_slice-in-loop-atom.ensures c.in_ok-more.ensures)

pub returns : goal.returns
returns c =
    left_end c.args.greatest c.args.stack.now c.args.locals.now c.args.atoms.now c.args.table.now c.loop-atom.table
    c.loop-atom.asked c.loop-atom.heaps c.loop-atom.atom-index (omega arith) c.loop-atom.invariant
