use Rattle.std.proofs.Common.{arith, sym, subst, ◌∙◌}
use Rattle.derivations.proofs.Offered.{all_next, all_end}
use Rattle.derivations.proofs.Trying.{own_tail, more_admitted, more_refused, refused_at_most, none_left}
use Rattle.derivations.proofs.search.try_links.Goals as goal

pub loop-link-preserved-in-Continue-branch-3 : goal.loop-link-preserved-in-Continue-branch-3
loop-link-preserved-in-Continue-branch-3 g c = record {
  made = c.in_ok-try_link.ensures.made ∙ c.loop-link.invariant.made;
  order = c.in_ok-try_link.ensures.order;
  subject = c.in_ok-try_link.ensures.subject ∙ c.loop-link.invariant.subject;
  kept = λ s f. c.in_ok-try_link.ensures.kept s (c.loop-link.invariant.kept s f);
  offered = (all_next (g.M.Moves.may_offer (g.M.Moves.subject c.args.moves.now))
      _ _ c.in-Some.link c.loop-link.invariant.offered c.in-Some.ensures.items).1;
  admitted = all_end (g.M.Moves.may_offer (g.M.Moves.subject c.args.moves.now))
      _ _ c.in-Some.link c.loop-link.invariant.admitted (all_next
      (g.M.Moves.may_offer (g.M.Moves.subject c.args.moves.now))
      _ _ c.in-Some.link c.loop-link.invariant.offered c.in-Some.ensures.items).0
      c.in_ok-push_back-in-Admitted.ensures.items;
  more = c.loop-link.invariant.more;
  below = c.loop-link.invariant.below;
  left = λ s f. more_admitted s _ _ _ _ _ _ _ c.in-Some.link _ _ _ _ (c.loop-link.invariant.left s f)
      c.in-Some.ensures.items c.loop-link.invariant.made
      (c.in_ok-try_link.ensures.tried s (c.loop-link.invariant.kept s f))
      c.in-Admitted.is c.in_ok-push_back-in-Admitted.ensures.items;
}

pub returns-then-count-most-clause-tried : goal.returns-then-count-most-clause-tried
returns-then-count-most-clause-tried g c s f =
    refused_at_most s _ _ _ _ _ _ c.in-Some.link _ _ _ _ _ (c.loop-link.invariant.left s f)
    c.in-Some.ensures.items c.loop-link.invariant.made
    (c.in_ok-try_link.ensures.tried s (c.loop-link.invariant.kept s f)) c.in-Refused.is (omega arith)
    c.if-count-most.true

pub loop-link-preserved : goal.loop-link-preserved
loop-link-preserved g c = record {
  made = c.in_ok-try_link.ensures.made ∙ c.loop-link.invariant.made;
  order = c.in_ok-try_link.ensures.order;
  subject = c.in_ok-try_link.ensures.subject ∙ c.loop-link.invariant.subject;
  kept = λ s f. c.in_ok-try_link.ensures.kept s (c.loop-link.invariant.kept s f);
  offered = (all_next (g.M.Moves.may_offer (g.M.Moves.subject c.args.moves.now))
      _ _ c.in-Some.link c.loop-link.invariant.offered c.in-Some.ensures.items).1;
  admitted = c.loop-link.invariant.admitted;
  more = omega arith;
  below = omega arith;
  left = λ s f. more_refused s _ _ _ _ _ _ c.in-Some.link _ _ _ _ _ (c.loop-link.invariant.left s f)
      c.in-Some.ensures.items c.loop-link.invariant.made
      (c.in_ok-try_link.ensures.tried s (c.loop-link.invariant.kept s f)) c.in-Refused.is (omega arith)
      c.if-count-most.false;
}

pub returns-clause-tried : goal.returns-clause-tried
returns-clause-tried g c s f = none_left s _ _ _ _ _ _ _ (c.loop-link.invariant.left s f)
    (own_tail _ (c.in_default.ensures.items ∙ c.in_default.ensures.rest)) c.loop-link.invariant.below

pub try_link-requires-clause-offered : goal.try_link-requires-clause-offered
try_link-requires-clause-offered g c =
    subst (λ (about : _). g.M.Moves.may_offer about c.in-Some.link) (sym c.loop-link.invariant.subject)
    (all_next (g.M.Moves.may_offer (g.M.Moves.subject c.args.moves.now))
    _ _ c.in-Some.link c.loop-link.invariant.offered c.in-Some.ensures.items).0
