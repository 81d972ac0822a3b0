use Rattle.std.proofs.Common.{arith, ◌∙◌, sym, eqb-true}
use Rattle.derivations.specs.Engine.{offers_in}
use Rattle.derivations.proofs.Members.{pushed}
use Rattle.derivations.proofs.Visiting.{chosen_rules, chosen_links, visited_on, some_items}
use Rattle.derivations.proofs.search.visit_member.Goals as goal
use Rattle.std.proofs.lemmas.List.{nil_from_length}

pub returns-in_ok-push-in-Tried-clause-visited : goal.returns-in_ok-push-in-Tried-clause-visited
returns-in_ok-push-in-Tried-clause-visited g c s f =
    visited_on s _ _ _ _ _ _ _ _ _ (g.M.Rules.Cursor.left c.in_ok-links.field-0.rules) _ c.in-Tried.admitted
    (omega arith) c.if-count-most.false (c.is_complete.ensures s f ∙ c.if-is_complete.false)
    (c.in_ok-links.ensures.links s f) (c.in_ok-stop.ensures.tried s f) c.in-Tried.is
    (pushed (offers_in g.M.Rules.Cursor.left) _ _ _ c.in_ok-push-in-Tried.ensures.items)
    (λ good. chosen_rules s _ _ _ _ good (nil_from_length _ (sym c.in-Tried.admitted.ok.0
    ∙ eqb-true _ _ (sym c.is_empty.ensures ∙ c.if-is_empty.true))) (c.in_ok-links.ensures.rules s f))

pub returns-in_ok-push-in-Tried-2-clause-visited : goal.returns-in_ok-push-in-Tried-2-clause-visited
returns-in_ok-push-in-Tried-2-clause-visited g c s f =
    visited_on s _ _ _ _ _ _ _ _ _ c.in-Tried.admitted.items _ c.in-Tried.admitted (omega arith) c.if-count-most.false
    (c.is_complete.ensures s f ∙ c.if-is_complete.false)
    (c.in_ok-links.ensures.links s f) (c.in_ok-stop.ensures.tried s f) c.in-Tried.is
    (pushed (offers_in g.M.Rules.Cursor.left) _ _ _ c.in_ok-push-in-Tried-2.ensures.items)
    (λ good. chosen_links s _ _ _ good (some_items _ _ (sym c.in-Tried.admitted.ok.0)
    (sym c.is_empty.ensures ∙ c.if-is_empty.false)))
