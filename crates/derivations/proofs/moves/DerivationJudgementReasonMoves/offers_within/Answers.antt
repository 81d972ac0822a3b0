use Rattle.std.proofs.Common.{sym, subst, ap, ◌∙◌}
use Rattle.derivations.specs.Fair.{AllOccur}
use Rattle.cyc_basics.specs.Words.{Each}
use Rattle.derivations.specs.Engine.{FitAlike}
use Rattle.derivations.proofs.Stack.{top_next}
use Rattle.derivations.specs.Effects.{LeavesOut}
use Rattle.derivations.specs.Derivations.{reasons_in}
use Rattle.derivations.proofs.Nexts.{next_occurs, offered_allowed}
use Rattle.derivations.proofs.Leaving.{each_of_these, these_fit_alike}
use Rattle.derivations.proofs.moves.DerivationJudgementReasonMoves.offers_within.Goals as goal

pub offers_within-requires-clause-occur : goal.offers_within-requires-clause-occur
offers_within-requires-clause-occur g c =
    let next = top_next c.args.self.now.goals.items c.deref.result.now c.in-Some.goal.now c.deref.ensures.value
    c.in-Some.ensures.value in
    subst (λ (ms : _). AllOccur (g.L.Rules.occurs c.args.self.now.logic) ms c.in-Some.goal.now)
    (sym c.deref-in-Some.ensures.value)
    (next_occurs g.L.Rules.calculus g.L.Rules.occurs g.L.Rules.allows c.args.self.now c.requires c.in-Some.goal.now
    next.0 next.1)

pub returns-in_ok-links-in-Some-clause-rules : goal.returns-in_ok-links-in-Some-clause-rules
returns-in_ok-links-in-Some-clause-rules g c system is =
    let s = c.args.self.now in
    let these = g.L.RuleCursor.Cursor.left c.in_ok-links-in-Some.field-0.rules in
    let next = top_next s.goals.items c.deref.result.now c.in-Some.goal.now c.deref.ensures.value
    c.in-Some.ensures.value in
    let out = subst (λ (most : _). LeavesOut (g.L.Rules.calculus s.logic) s.made.items c.in-Some.goal.now most
    ((g.L.Rules.calculus s.logic).rules s.made.items c.in-Some.goal.now) these) c.most_premises-most.ensures
    (subst (λ (ms : _). LeavesOut (g.L.Rules.calculus s.logic) ms c.in-Some.goal.now c.most_premises-most.result
    ((g.L.Rules.calculus s.logic).rules ms c.in-Some.goal.now) these)
    c.deref-in-Some.ensures.value c.in_ok-links-in-Some.ensures.rules) in
    subst (λ (sys : _). FitAlike sys c.args.bound (reasons_in s) these (sys.rules (reasons_in s))) (sym is)
    (these_fit_alike g.L.Rules.calculus g.L.Rules.occurs g.L.Rules.allows s c.requires c.args.bound c.in-Some.goal.now
    next.0 next.1 these out)

pub returns-in_ok-links-in-Some-clause-offered : goal.returns-in_ok-links-in-Some-clause-offered
returns-in_ok-links-in-Some-clause-offered g c =
    let s = c.args.self.now in
    let next = top_next s.goals.items c.deref.result.now c.in-Some.goal.now c.deref.ensures.value
    c.in-Some.ensures.value in
    let allowed = offered_allowed g.L.Rules.calculus g.L.Rules.occurs g.L.Rules.allows s c.requires c.in-Some.goal.now
    next.0 next.1 in (
      subst (Each (g.L.Rules.allows s.logic)) (sym (c.in_ok-links-in-Some.ensures.links
          ∙ ap (λ (ms : _). (g.L.Rules.calculus s.logic).links ms c.in-Some.goal.now) c.deref-in-Some.ensures.value))
          allowed.0,
      each_of_these (g.L.Rules.calculus s.logic)
          c.deref-in-Some.result.now c.in-Some.goal.now c.most_premises-most.result _ _ (g.L.Rules.allows s.logic)
          c.in_ok-links-in-Some.ensures.rules
          (subst (λ (ms : _). Each (g.L.Rules.allows s.logic)
          ((g.L.Rules.calculus s.logic).rules ms c.in-Some.goal.now)) (sym c.deref-in-Some.ensures.value)
          allowed.1),
    )
