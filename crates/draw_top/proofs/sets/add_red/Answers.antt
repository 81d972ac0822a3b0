use Rattle.std.proofs.Common.{Bool, ◌++◌, map, sym, ap, ◌∙◌}
use Rattle.draw_top.specs.Graphs.{set_of}
use Rattle.draw_top.specs.Drawings.{refused_sets}
use Rattle.draw_top.proofs.Loops.{two_more}
use Rattle.draw_top.proofs.sets.add_red.Goals as goal

pub returns-in_ok-push-2 : goal.returns-in_ok-push-2
returns-in_ok-push-2 c =
    two_more c.args.sets.now.items c.push.new.self.items c.push-then-is_refused.new.self.items c.set.result
    c.set-then-is_refused.result _ _ c.in_ok-push.ensures.items c.in_ok-push-2.ensures.items c.set.ensures
    c.set-then-is_refused.ensures
    ∙ ap (λ (b : Bool). map set_of c.args.sets.now.items ++ refused_sets b) (sym c.if-is_refused.true)
