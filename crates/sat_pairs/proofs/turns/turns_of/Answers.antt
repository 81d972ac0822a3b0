use Rattle.std.proofs.Common.{◌≡◌, inl, inr, length, sym, ap, subst, arith}
use Rattle.sat_pairs.specs.Turns.{HasTurns}
use Rattle.sat_pairs.proofs.Taken.{below_or}
use Rattle.sat_pairs.proofs.turns.turns_of.Goals as goal

pub loop-pred-preserved : goal.loop-pred-preserved
loop-pred-preserved c =
    let ds = c.args.defs.now.list in
    let now = c.push_turns.new.turns.items in
    record {
      new = c.in_ok-push_turns.ensures.new;
      all = λ p l. elim (below_or p c.loop-pred.pred l) [
        | inl less ↦ c.in_ok-push_turns.ensures.had p (c.loop-pred.invariant.all p less)
        | inr e ↦ subst (λ z. HasTurns ds z now) (sym e) c.in_ok-push_turns.ensures.has
      ];
    }

pub returns-clause-all : goal.returns-clause-all
returns-clause-all c =
    let l : length c.as_slice-pred-end.result.now
    ≡ length c.args.defs.now.list = ap length c.as_slice-pred-end.ensures.value in
    let f = c.loop-pred-test.false in
    λ p less. c.loop-pred.invariant.all p (omega arith)
