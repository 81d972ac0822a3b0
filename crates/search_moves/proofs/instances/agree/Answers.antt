use Rattle.std.proofs.Common.{sym, ◌∙◌}
use Rattle.search_moves.proofs.TwoLists.{agree_to_end, agreed}
use Rattle.search_moves.proofs.instances.agree.Goals as goal

pub returns-then-k-others : goal.returns-then-k-others
returns-then-k-others c = sym (agree_to_end c.args.terms.now c.args.others.now c.loop-k.k c.if-k-others.true)
    ∙ c.loop-k.invariant.0

pub returns : goal.returns
returns c = sym (agreed c.args.terms.now c.args.others.now c.loop-k.k c.loop-k-test.false) ∙ c.loop-k.invariant.0
