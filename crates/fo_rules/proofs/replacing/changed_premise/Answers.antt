use Rattle.fo_rules.proofs.Replacings.{premise_made}
use Rattle.fo_rules.proofs.replacing.changed_premise.Goals as goal

pub returns : goal.returns
returns c =
    premise_made c.args.sequent.now c.args.i c.args.n c.args.term.now c.args.change.now c.args.kept.now
    c.as_slice.result.now c.requires.kept c.as_slice.ensures c.requires.change c.in_ok-left.left c.in_ok-right.right
    c.in_ok-pairs.pairs c.in_ok-pairs.ensures c.in_ok-left.ensures c.in_ok-right.ensures
