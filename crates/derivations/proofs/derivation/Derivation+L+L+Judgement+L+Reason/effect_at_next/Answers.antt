use Rattle.std.proofs.Common.{sym, subst}
use Rattle.std.proofs.lemmas.Result.{IfOk-weaker}
use Rattle.derivations.specs.Fair.{AllOccur}
use Rattle.derivations.specs.Effects.{IsEffect}
use Rattle.derivations.proofs.Stack.{top_next, no_top}
use Rattle.derivations.proofs.Nexts.{next_occurs, none_open, next_effect}
use Rattle.derivations.proofs.derivation.Derivation+L+L+Judgement+L+Reason.effect_at_next.Goals as goal

pub returns-in-None : goal.returns-in-None
returns-in-None g c = none_open g.L.Rules.calculus g.L.Rules.occurs g.L.Rules.allows c.args.self.now c.requires.order
    c.args.reason.now
    (no_top c.args.self.now.goals.items c.deref.result.now c.deref.ensures.value c.in-None.ensures.value)

pub effect-requires-clause-occur : goal.effect-requires-clause-occur
effect-requires-clause-occur g c =
    let next = top_next c.args.self.now.goals.items c.deref.result.now c.in-Some.goal.now c.deref.ensures.value
    c.in-Some.ensures.value in
    subst (λ (ms : _). AllOccur (g.L.Rules.occurs c.args.self.now.logic) ms c.in-Some.goal.now)
    (sym c.deref-in-Some.ensures.value)
    (next_occurs g.L.Rules.calculus g.L.Rules.occurs g.L.Rules.allows c.args.self.now c.requires.order
    c.in-Some.goal.now next.0 next.1)

pub returns-in-Some : goal.returns-in-Some
returns-in-Some g c =
    let next = top_next c.args.self.now.goals.items c.deref.result.now c.in-Some.goal.now c.deref.ensures.value
    c.in-Some.ensures.value in
    IfOk-weaker c.effect.result _ _
    (λ o is.
    next_effect g.L.Rules.calculus g.L.Rules.occurs g.L.Rules.allows c.args.self.now c.requires.order
    c.args.reason.now c.in-Some.goal.now next.0 o next.1
    (subst (λ (ms : _). IsEffect (g.L.Rules.calculus c.args.self.now.logic) ms c.in-Some.goal.now c.args.reason.now o)
    c.deref-in-Some.ensures.value is))
    c.effect.ensures
