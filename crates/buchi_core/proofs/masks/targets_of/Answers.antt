-- Position after position of the set, the least first.
use Rattle.std.proofs.Common.{arith}
use Rattle.buchi_core.proofs.Moves.{fewer, known_start, known_more, target_start, target_more, target_end}
use Rattle.buchi_core.proofs.masks.targets_of.Goals as goal

pub loop-rest-init : goal.loop-rest-init
loop-rest-init c = record {
  known = λ p l h. known_start c.args.set c.args.table.now.sources p h;
  led = λ pairs moves q l. target_start pairs c.args.table.now c.args.set q moves l;
}

pub loop-rest-smaller : goal.loop-rest-smaller
loop-rest-smaller c = fewer c.loop-rest.rest (omega (arith, c.loop-rest-test.true))
    (omega (arith, c.loop-rest.auto.rest-fits))

pub loop-rest-preserved : goal.loop-rest-preserved
loop-rest-preserved c = record {
  known = λ p l h. known_more c.args.table.now.sources c.loop-rest.rest p (omega (arith, c.loop-rest-test.true))
      (omega (arith, c.loop-rest.auto.rest-fits)) l c.loop-rest.invariant.known h;
  led = λ pairs moves q l. target_more pairs c.args.table.now c.loop-rest.targets c.loop-rest.rest q _ moves l
      (omega (arith, c.loop-rest-test.true)) (omega (arith, c.loop-rest.auto.rest-fits))
      c.loop-rest.invariant.known (c.loop-rest.invariant.led pairs moves q l);
}

pub returns : goal.returns
returns c pairs moves q l = target_end pairs c.loop-rest.targets c.loop-rest.rest q _
    (omega (arith, c.loop-rest-test.false)) (c.loop-rest.invariant.led pairs moves q l)
