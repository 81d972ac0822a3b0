use Rattle.std.proofs.Common.{◌++◌, ap, ◌∙◌, map}
use Rattle.search_moves.proofs.OnceEach.{ruled}
use Rattle.search_moves.specs.Entailments.{fields_with, instance_rule}
use Rattle.search_moves.proofs.instances.field_rules.Goals as goal

pub loop-atom-preserved : goal.loop-atom-preserved
loop-atom-preserved c =
    ruled instance_rule (fields_with c.args.right.now)
    c.args.left.now c.loop-atom.atom-index c.atom-item.result c.loop-atom.rules.items
    c.push_field_rules.new.rules.items _ c.loop-atom-test.true
    (c.in_ok-push_field_rules.ensures ∙ ap (λ x. c.loop-atom.rules.items
    ++ map instance_rule (fields_with c.args.right.now x)) c.atom-item.is) c.loop-atom.invariant
