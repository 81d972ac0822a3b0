use Rattle.std.proofs.Common.{sym, ◌∙◌, arith}
use Rattle.back_links.proofs.Forced.{first_short, next_terms, second_short}
use Rattle.back_links.proofs.prospects.opposite_in.Goals as goal

pub loop-i-preserved : goal.loop-i-preserved
loop-i-preserved c =
    let next = next_terms c.args.n c.args.ts.now c.args.us.now c.loop-i.i c.loop-i-test.true
    (omega (arith, c.if-i-us.false)) (sym c.same_term.ensures ∙ c.if-same_term.false) in
    (next ∙ c.loop-i.invariant.0, omega (arith, c.if-i-us.false))

pub returns-then-i-us : goal.returns-then-i-us
returns-then-i-us c = sym
    (second_short c.args.n c.args.ts.now c.args.us.now c.loop-i.i c.if-i-us.true c.loop-i-test.true)
    ∙ c.loop-i.invariant.0

pub returns : goal.returns
returns c = sym (first_short c.args.n c.args.ts.now c.args.us.now c.loop-i.i c.loop-i-test.false) ∙ c.loop-i.invariant.0
