use Rattle.std.proofs.Common.{◌-◌, sym, ap, ◌∙◌}
use Rattle.std.specs.Option.{option_copied}
use Rattle.search_moves.specs.States.{climbs}
use Rattle.search_moves.specs.Ways.{said_by}
use Rattle.search_moves.specs.declared.ways.Way.{Way}
use Rattle.search_moves.proofs.Climbing.{says_so}
use Rattle.search_moves.proofs.ways.came_by_exec.Goals as goal

pub returns-in-AtExec : goal.returns-in-AtExec
returns-in-AtExec c =
    sym (says_so c.args.made.now c.loop-left.left c.loop-left.v c.in-Some.node.now c.way_of.result c.loop-left-test.true
    (sym c.node_at.ensures ∙ ap option_copied c.in-Some.is) c.way_of.ensures
    ∙ ap (λ (w : Way). said_by (climbs c.args.made.now (c.loop-left.left - 1) c.in-Some.node.now.goal.parent) w)
    c.in-AtExec.is) ∙ c.loop-left.invariant

pub returns-in-Elsewhere : goal.returns-in-Elsewhere
returns-in-Elsewhere c =
    sym (says_so c.args.made.now c.loop-left.left c.loop-left.v c.in-Some.node.now c.way_of.result c.loop-left-test.true
    (sym c.node_at.ensures ∙ ap option_copied c.in-Some.is) c.way_of.ensures
    ∙ ap (λ (w : Way). said_by (climbs c.args.made.now (c.loop-left.left - 1) c.in-Some.node.now.goal.parent) w)
    c.in-Elsewhere.is) ∙ c.loop-left.invariant

pub loop-left-preserved : goal.loop-left-preserved
loop-left-preserved c =
    sym (says_so c.args.made.now c.loop-left.left c.loop-left.v c.in-Some.node.now c.way_of.result c.loop-left-test.true
    (sym c.node_at.ensures ∙ ap option_copied c.in-Some.is) c.way_of.ensures
    ∙ ap (λ (w : Way). said_by (climbs c.args.made.now (c.loop-left.left - 1) c.in-Some.node.now.goal.parent) w)
    c.in-Above.is) ∙ c.loop-left.invariant
