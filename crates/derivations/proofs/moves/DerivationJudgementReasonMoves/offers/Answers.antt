use Rattle.std.proofs.Common.{◌<◌, length, arith, sym, subst, ap, ◌∙◌}
use Rattle.derivations.specs.Fair.{AllOccur}
use Rattle.cyc_basics.specs.Words.{Each}
use Rattle.derivations.proofs.Stack.{top_next}
use Rattle.derivations.proofs.Nexts.{next_occurs, offered_allowed}
use Rattle.derivations.proofs.moves.DerivationJudgementReasonMoves.offers.Goals as goal

pub offers-requires-clause-few : goal.offers-requires-clause-few
offers-requires-clause-few g c =
    let few = c.requires.few in
    let fits = c.requires.fits in
    let made : length c.args.self.now.made.items < 4294967296 = omega (arith, few, fits) in
    subst (λ (ms : _). length ms < 4294967296) (sym c.deref-in-Some.ensures.value) made

pub offers-requires-clause-occur : goal.offers-requires-clause-occur
offers-requires-clause-occur g c =
    let next = top_next c.args.self.now.goals.items c.deref.result.now c.in-Some.goal.now c.deref.ensures.value
    c.in-Some.ensures.value in
    subst (λ (ms : _). AllOccur (g.L.Rules.occurs c.args.self.now.logic) ms c.in-Some.goal.now)
    (sym c.deref-in-Some.ensures.value)
    (next_occurs g.L.Rules.calculus g.L.Rules.occurs g.L.Rules.allows c.args.self.now c.requires c.in-Some.goal.now
    next.0 next.1)

pub returns-in_ok-links-in-Some-clause-offered : goal.returns-in_ok-links-in-Some-clause-offered
returns-in_ok-links-in-Some-clause-offered g c =
    let next = top_next c.args.self.now.goals.items c.deref.result.now c.in-Some.goal.now c.deref.ensures.value
    c.in-Some.ensures.value in
    let allowed = offered_allowed g.L.Rules.calculus g.L.Rules.occurs g.L.Rules.allows c.args.self.now c.requires
    c.in-Some.goal.now next.0 next.1 in (
      subst (Each (g.L.Rules.allows c.args.self.now.logic))
          (sym (c.in_ok-links-in-Some.ensures.links ∙ ap (λ (ms : _).
          (g.L.Rules.calculus c.args.self.now.logic).links ms c.in-Some.goal.now) c.deref-in-Some.ensures.value))
          allowed.0,
      subst (Each (g.L.Rules.allows c.args.self.now.logic))
          (sym (c.in_ok-links-in-Some.ensures.rules ∙ ap (λ (ms : _).
          (g.L.Rules.calculus c.args.self.now.logic).rules ms c.in-Some.goal.now) c.deref-in-Some.ensures.value))
          allowed.1,
    )
