use Rattle.std.proofs.Common.{map, subst, ◌∙◌}
use Rattle.derivations.specs.Engine.{AreFramesOffered, offers_in}
use Rattle.derivations.proofs.Depth.{stops, next_member, none_next, more_is}
use Rattle.derivations.proofs.search.search_depth.Goals as goal

pub returns-in-Stopped-clause-searched : goal.returns-in-Stopped-clause-searched
returns-in-Stopped-clause-searched g c s f =
    stops s _ _ _ _ _ _ _ _ c.in-Stopped.stop (c.loop-frames.invariant.at s f)
    (c.in_ok-stop.ensures.visited s (c.loop-frames.invariant.kept s f)) c.in-Stopped.is c.in_ok-stop.ensures.made

pub returns-then-not-branch-clause-searched : goal.returns-then-not-branch-clause-searched
returns-then-not-branch-clause-searched g c s f = (
  c.in-On.more,
  none_next s _ _ _ _ _ (g.M.Moves.made c.advance.new.moves) _ _
      (map (offers_in g.M.Rules.Cursor.left) c.advance.new.frames.items) _ _ c.in_ok-advance.field-0
      (c.loop-frames.invariant.at s f) (c.in_ok-stop.ensures.visited s (c.loop-frames.invariant.kept s f))
      c.in-On.is c.in_ok-stop.ensures.made
      (c.in_ok-advance.ensures.next s (c.in_ok-stop.ensures.kept s (c.loop-frames.invariant.kept s f)))
      c.if-not-branch.true,
)

pub loop-frames-preserved : goal.loop-frames-preserved
loop-frames-preserved g c = record {
  order = c.in_ok-advance.ensures.order;
  offered = subst (λ (about : _). AreFramesOffered (g.M.Moves.may_offer about)
      (map (offers_in g.M.Rules.Cursor.left) c.advance.new.frames.items))
      (c.in_ok-stop.ensures.subject ∙ c.loop-frames.invariant.subject) c.in_ok-advance.ensures.offered;
  subject = c.in_ok-advance.ensures.subject ∙ (c.in_ok-stop.ensures.subject ∙ c.loop-frames.invariant.subject);
  kept = λ s f. c.in_ok-advance.ensures.kept s (c.in_ok-stop.ensures.kept s (c.loop-frames.invariant.kept s f));
  below = (more_is _ _ _ _ c.in_ok-stop.ensures.more c.in-On.is).1;
  at = λ s f. next_member s _ _ _ _ _ (g.M.Moves.made c.advance.new.moves) _ _
      (map (offers_in g.M.Rules.Cursor.left) c.advance.new.frames.items) _ _ c.in_ok-advance.field-0
      (c.loop-frames.invariant.at s f) (c.in_ok-stop.ensures.visited s (c.loop-frames.invariant.kept s f))
      c.in-On.is c.in_ok-stop.ensures.made
      (c.in_ok-advance.ensures.next s (c.in_ok-stop.ensures.kept s (c.loop-frames.invariant.kept s f)))
      c.if-not-branch.false;
}
