use Rattle.std.proofs.Common.{◌≡◌, ℕ, ◌<◌, true, false, subst, arith}
use Rattle.std.specs.Prelude.{◌↔◌, IsTrue}
use Rattle.heap_formula.specs.Cells.{no_cells}
use Rattle.heap_formula.specs.Programs.{Config as State}
use Rattle.heap_formula.proofs.Unions.{union_empty}
use Rattle.goto_lang.specs.States.{state_of}
use Rattle.general_models.proofs.SomeOf.{not_held, held}
use Rattle.general_models.specs.Picks.{headroom_of}
use Rattle.general_models.specs.Refuting.{IsRefuting}
use Rattle.general_models.proofs.Halting.{no_termination}
use Rattle.general_models.proofs.runs.termination.refutes_termination.Goals as goal

pub returns-then-not-holds : goal.returns-then-not-holds
returns-then-not-holds c = record {
  exact = not_held c.in_ok-holds.holds c.if-not-holds.true c.in_ok-holds.ensures.exact;
  refuted = λ t. absurd (let z : false ≡ true = t in cc);
}

pub returns : goal.returns
returns c =
    let i1 = subst (λ (w : ℕ). IsTrue c.in_ok-refuting.refuting
    ↔ IsRefuting c.args.program.now w c.args.picks.now (state_of c.in_ok-start.start) c.args.ending.now)
    c.headroom.ensures c.in_ok-refuting.ensures.exact in
    let i2 = subst (λ (s : State). IsTrue c.in_ok-refuting.refuting
    ↔ IsRefuting c.args.program.now (headroom_of c.args.picks.now) c.args.picks.now s c.args.ending.now)
    c.in_ok-start.ensures.value i1 in
    let positive : 0 < headroom_of c.args.picks.now = omega arith in
    record {
      exact = held c.in_ok-holds.holds c.in_ok-refuting.refuting c.if-not-holds.false c.in_ok-holds.ensures.exact i2;
      refuted = λ t.
          no_termination c.args.defs.now.list c.args.program.now c.args.line c.args.precondition.now c.args.stack.now
          c.args.heap.now c.args.heap.now (headroom_of c.args.picks.now) c.args.picks.now c.args.ending.now positive
          (no_cells, union_empty c.args.heap.now) (c.in_ok-holds.ensures.exact.0 c.if-not-holds.false) (i2.0 t);
    }
