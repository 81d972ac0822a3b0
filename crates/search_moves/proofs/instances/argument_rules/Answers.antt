use Rattle.std.proofs.Common.{ap, ◌∙◌}
use Rattle.search_moves.specs.Places.{each_of}
use Rattle.search_moves.proofs.OnceEach.{once_by, ended, once_ruled}
use Rattle.search_moves.specs.Entailments.{arguments_with}
use Rattle.search_moves.specs.Instances.{rules_once}
use Rattle.search_moves.proofs.instances.argument_rules.Goals as goal

pub loop-atom-preserved : goal.loop-atom-preserved
loop-atom-preserved c =
    once_by (arguments_with c.args.left.now)
    c.args.right.now c.loop-atom.atom-index c.atom-item.result c.loop-atom.rules.items
    c.push_argument_rules.new.rules.items _ c.loop-atom-test.true
    (c.in_ok-push_argument_rules.ensures ∙ ap (λ x. rules_once c.loop-atom.rules.items
    (arguments_with c.args.left.now x)) c.atom-item.is) c.loop-atom.invariant

pub returns : goal.returns
returns c =
    ended (arguments_with c.args.left.now)
    c.args.right.now c.loop-atom.atom-index c.loop-atom.rules.items _ c.loop-atom-test.false c.loop-atom.invariant
    ∙ once_ruled (each_of (arguments_with c.args.left.now) c.args.right.now)
