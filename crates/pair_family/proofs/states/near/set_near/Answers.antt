use Rattle.std.proofs.Common.{arith, refl, get_or}
use Rattle.cyc_basics.specs.Bits.{is_one}
use Rattle.pair_family.proofs.Near.{none_added, near_more, near_end}
use Rattle.pair_family.proofs.states.near.set_near.Goals as goal

pub loop-difference-init : goal.loop-difference-init
loop-difference-init c = record { long = refl; right = λ p q lp lq. none_added 64 p q _ }

pub loop-difference-preserved : goal.loop-difference-preserved
loop-difference-preserved c = record {
  long = c.add_near-in-loop-difference.ensures.long;
  right = λ p q lp lq.
      near_more c.args.differences.now c.loop-difference.difference-index (0, 0) p q
      (is_one (get_or c.loop-difference.near p 0) q) (is_one (get_or c.add_near.new.near p 0) q)
      (is_one (get_or c.add_near-in-loop-difference.new.near p 0) q) c.loop-difference-test.true
      (c.add_near.ensures.added p q lp lq) (c.add_near-in-loop-difference.ensures.added p q lp lq)
      (c.loop-difference.invariant.right p q lp lq);
}

pub returns : goal.returns
returns c = record {
  long = c.loop-difference.invariant.long;
  right = λ p q lp lq.
      near_end c.args.differences.now c.loop-difference.difference-index p q (is_one (get_or c.loop-difference.near p 0) q)
      (omega (arith, c.loop-difference-test.false)) (c.loop-difference.invariant.right p q lp lq);
}
