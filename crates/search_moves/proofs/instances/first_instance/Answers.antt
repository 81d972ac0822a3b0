use Rattle.std.proofs.Common.{sym, ◌∙◌, arith}
use Rattle.search_moves.proofs.TwoLists.{others_end, terms_end, goes_on}
use Rattle.search_moves.proofs.instances.first_instance.Goals as goal

pub returns-then-k-others : goal.returns-then-k-others
returns-then-k-others c = sym (others_end c.args.terms.now c.args.others.now c.loop-k.k c.if-k-others.true)
    ∙ c.loop-k.invariant.0

pub returns : goal.returns
returns c = sym (terms_end c.args.terms.now c.args.others.now c.loop-k.k c.loop-k-test.false) ∙ c.loop-k.invariant.0

pub loop-k-preserved : goal.loop-k-preserved
loop-k-preserved c = (
  sym (goes_on c.args.terms.now c.args.others.now c.loop-k.k c.loop-k-test.true (omega arith)
      (sym c.instance_at.ensures ∙ c.in_default.is)) ∙ c.loop-k.invariant.0,
  omega arith,
)
