use Rattle.std.proofs.Common.{◌≡◌, ◌∙◌, ◌<◌, ℕ, [], sym, ap, length, subst}
use Rattle.std.specs.Prelude.{replicate}
use Rattle.heap_formula.specs.Words.{Each}
use Rattle.heap_formula.proofs.AllMembers.{each_imply}
use Rattle.sat_pairs.specs.Growth.{total}
use Rattle.sat_pairs.specs.Turns.{IsNewTurn, IsTurn}
use Rattle.sat_pairs.proofs.Taken.{empty_part, empty_count, finished, finished_small, none_large}
use Rattle.sat_pairs.proofs.Turned.{all_given, all_small, has_turns}
use Rattle.sat_pairs.proofs.rounds.base_pairs.Goals as goal

pub loop-agenda-init : goal.loop-agenda-init
loop-agenda-init c =
    let ds = c.args.defs.now.list in
    let e : c.in_ok-table.table ≡ replicate (length ds) [] = c.in_ok-table.ensures
    ∙ ap (λ xs. replicate (length xs) []) c.as_slice.ensures.value in
    record {
      part = empty_part ds c.args.limits.pairs c.in_ok-table.table e;
      count = empty_count (length ds) c.in_ok-table.table e;
      turns = each_imply (IsNewTurn ds c.args.limits.states)
          (IsTurn ds c.args.limits.states c.in_ok-table.table c.in_ok-cell.cell.items)
          (λ t n. n c.in_ok-table.table c.in_ok-cell.cell.items) c.in_ok-turns.turns.items c.in_ok-turns.ensures.new;
      all = c.in_ok-turns.ensures.all;
    }

pub work_through-requires-clause-cell : goal.work_through-requires-clause-cell
work_through-requires-clause-cell c = c.deref-in-loop-agenda.ensures.value ∙ c.in_ok-cell.ensures

pub work_through-requires-clause-turns : goal.work_through-requires-clause-turns
work_through-requires-clause-turns c =
    subst (λ z. Each (IsTurn c.args.defs.now.list c.args.limits.states c.loop-agenda.table z) c.loop-agenda.turns.items)
    (sym c.deref-in-loop-agenda.ensures.value) c.loop-agenda.invariant.turns

pub sweep-requires-clause-cell : goal.sweep-requires-clause-cell
sweep-requires-clause-cell c = c.deref-in-loop-agenda-2.ensures.value ∙ c.in_ok-cell.ensures

pub sweep-requires-clause-turns : goal.sweep-requires-clause-turns
sweep-requires-clause-turns c =
    subst (λ z. Each (IsTurn c.args.defs.now.list c.args.limits.states c.work_through.new.table z)
    c.work_through.new.turns.items) (c.deref-in-loop-agenda.ensures.value ∙ sym c.deref-in-loop-agenda-2.ensures.value)
    c.in_ok-worked.ensures.turns

pub loop-agenda-preserved : goal.loop-agenda-preserved
loop-agenda-preserved c = record {
  part = c.in_ok-now.ensures.part.0;
  count = c.in_ok-now.ensures.part.1;
  turns = subst (λ z. Each (IsTurn c.args.defs.now.list c.args.limits.states c.sweep.new.table z)
      c.sweep.new.turns.items) c.deref-in-loop-agenda-2.ensures.value c.in_ok-now.ensures.turns;
  all = λ p l.
      has_turns c.args.defs.now.list p c.loop-agenda.turns.items c.sweep.new.turns.items
      (c.in_ok-now.ensures.same ∙ c.in_ok-worked.ensures.same) (c.loop-agenda.invariant.all p l);
}

pub returns-then-now-worked-clause-table : goal.returns-then-now-worked-clause-table
returns-then-now-worked-clause-table c =
    let ds = c.args.defs.now.list in
    let old = c.work_through.new.table in
    let new = c.sweep.new.table in
    let turns = c.sweep.new.turns.items in
    let same : total new ≡ total old = sym c.in_ok-now.ensures.part.1
    ∙ (c.if-now-worked.true ∙ c.in_ok-worked.ensures.part.1) in
    finished ds c.args.limits.pairs old new c.in_ok-now.ensures.part.0 c.in_ok-now.ensures.grown same
    (all_given ds c.args.limits.states old new turns (λ p l.
    has_turns ds p c.loop-agenda.turns.items turns (c.in_ok-now.ensures.same ∙ c.in_ok-worked.ensures.same)
    (c.loop-agenda.invariant.all p l)) c.in_ok-now.ensures.done)

pub returns-then-now-worked-clause-small : goal.returns-then-now-worked-clause-small
returns-then-now-worked-clause-small c =
    let ds = c.args.defs.now.list in
    let states = c.args.limits.states in
    let old = c.work_through.new.table in
    let new = c.sweep.new.table in
    let turns = c.sweep.new.turns.items in
    let same : total new ≡ total old = sym c.in_ok-now.ensures.part.1
    ∙ (c.if-now-worked.true ∙ c.in_ok-worked.ensures.part.1) in
    let all = λ (p : ℕ) (l : p < length ds). has_turns ds p c.loop-agenda.turns.items turns
    (c.in_ok-now.ensures.same ∙ c.in_ok-worked.ensures.same) (c.loop-agenda.invariant.all p l) in
    let is = finished ds c.args.limits.pairs old new c.in_ok-now.ensures.part.0 c.in_ok-now.ensures.grown same
    (all_given ds states old new turns all c.in_ok-now.ensures.done) in
    finished_small ds states old new is.0 c.in_ok-now.ensures.grown same
    (none_large ds states old (all_small ds states old new turns all c.in_ok-now.ensures.done))
