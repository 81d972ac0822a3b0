use Rattle.std.proofs.Common.{Bool, ◌++◌, map, sym, ap, ◌∙◌}
use Rattle.draw_top.specs.Graphs.{set_of}
use Rattle.draw_top.specs.Drawings.{link_sets}
use Rattle.draw_top.proofs.Loops.{two_more}
use Rattle.draw_top.proofs.edges.add_link.Goals as goal

pub returns-in_ok-push-2 : goal.returns-in_ok-push-2
returns-in_ok-push-2 c =
    two_more c.args.sets.now.items c.push.new.self.items c.push-then-is_link.new.self.items c.set.result
    c.set-then-is_link.result _ _ c.in_ok-push.ensures.items c.in_ok-push-2.ensures.items c.set.ensures
    c.set-then-is_link.ensures
    ∙ ap (λ (b : Bool). map set_of c.args.sets.now.items ++ link_sets b) (sym c.if-is_link.true)
