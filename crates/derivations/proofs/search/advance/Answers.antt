use Rattle.std.proofs.Common.{[], ◌∷◌, map, reverse, refl, ap, ◌∙◌}
use Rattle.std.proofs.lemmas.List.{reverse-append}
use Rattle.cyc_basics.specs.Words.{Each}
use Rattle.derivations.specs.Engine.{offers_in}
use Rattle.derivations.specs.Stack.{rest_of}
use Rattle.derivations.proofs.Offered.{all_parts}
use Rattle.derivations.proofs.Members.{head_told, next_is, pushed}
use Rattle.derivations.proofs.search.advance.Goals as goal

pub returns-then-branch-clause-next : goal.returns-then-branch-clause-next
returns-then-branch-clause-next g c s f =
    next_is s _ _ _ c.in-Some-2.reason _ _ _ _ (offers_in g.M.Rules.Cursor.left c.next_offer.new.frame) _
    (c.loop-frame-2.invariant.left s f) (head_told _ _ _ c.in-Some-2.reason c.in_ok-reason.ensures c.in-Some-2.is)
    (c.in_ok-follow.ensures.fits s (c.loop-frame-2.invariant.kept s f) ∙ c.if-branch.true)
    (c.in_ok-follow.ensures.made.0 c.if-branch.true) (pushed (offers_in g.M.Rules.Cursor.left)
    _ _ _ c.in_ok-push.ensures.items) refl

pub loop-frame-2-init : goal.loop-frame-2-init
loop-frame-2-init g c =
    let popped = pushed (offers_in g.M.Rules.Cursor.left)
    c.pop.new.self.items c.loop-frame.frames.items c.in-Some.frame c.in-Some.ensures.items in
    let parts = all_parts (Each (g.M.Moves.may_offer (g.M.Moves.subject c.args.moves.now)))
    (map (offers_in g.M.Rules.Cursor.left) c.pop.new.self.items)
    (map (offers_in g.M.Rules.Cursor.left) c.loop-frame.frames.items)
    (offers_in g.M.Rules.Cursor.left c.in-Some.frame) c.loop-frame.invariant.offered popped in
    record {
      long = refl;
      order = c.loop-frame.invariant.order;
      offered = parts.0;
      top = parts.1;
      subject = c.loop-frame.invariant.subject;
      kept = c.loop-frame.invariant.kept;
      left = λ s f. c.loop-frame.invariant.left s f
          ∙ ap (rest_of s c.args.bound (g.M.Moves.made c.loop-frame.moves))
          (ap reverse popped ∙ reverse-append (map (offers_in g.M.Rules.Cursor.left) c.pop.new.self.items)
          (offers_in g.M.Rules.Cursor.left c.in-Some.frame ∷ []));
    }
