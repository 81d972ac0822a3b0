use Rattle.std.proofs.Common.{arith, sym, subst, ap, length, ◌∙◌}
use Rattle.std.proofs.lemmas.List.{length-reverse}
use Rattle.derivations.specs.Derivations.{IsNextEffect}
use Rattle.derivations.proofs.Stack.{top_next, no_top}
use Rattle.derivations.proofs.Nexts.{none_open, none_fits, fits_is, may_take, same_goal, others_are}
use Rattle.derivations.proofs.derivation.Derivation+L+L+Judgement+L+Reason.fitting_effect.Goals as goal

pub returns-in_default : goal.returns-in_default
returns-in_default g c = none_fits g.L.Rules.calculus g.L.Rules.occurs g.L.Rules.allows c.args.self.now c.requires.order
    c.args.bound c.args.reason.now
    (none_open g.L.Rules.calculus g.L.Rules.occurs g.L.Rules.allows c.args.self.now c.requires.order c.args.reason.now
    (no_top c.args.self.now.goals.items c.deref.result.now c.deref.ensures.value c.in_default.ensures.value))

pub returns-in_default-2 : goal.returns-in_default-2
returns-in_default-2 g c = none_fits g.L.Rules.calculus g.L.Rules.occurs g.L.Rules.allows c.args.self.now
    c.requires.order c.args.bound c.args.reason.now
    (subst (IsNextEffect g.L.Rules.calculus c.args.self.now c.args.reason.now) c.in_default-2.is c.in_ok-effect.ensures)

pub has_room-requires : goal.has_room-requires
has_room-requires g c =
    let next = top_next c.args.self.now.goals.items c.deref.result.now c.in-Some.goal.now c.deref.ensures.value
    c.in-Some.ensures.value in
    omega (
      arith,
      c.requires.order.few,
      c.len-made.ensures,
      c.args.self.now.made.ok.0,
      c.len-others.ensures,
      c.args.self.now.goals.ok.0,
      ap length next.1,
      length-reverse c.args.self.now.goals.items,
    )

pub returns-then-not-has_room : goal.returns-then-not-has_room
returns-then-not-has_room g c =
    let next = top_next c.args.self.now.goals.items c.deref.result.now c.in-Some.goal.now c.deref.ensures.value
    c.in-Some.ensures.value in
    let has = subst (IsNextEffect g.L.Rules.calculus c.args.self.now c.args.reason.now)
    c.in-Some-2.is c.in_ok-effect.ensures in
    fits_is g.L.Rules.calculus g.L.Rules.occurs g.L.Rules.allows c.args.self.now c.requires.order c.args.reason.now
    c.in-Some-2.effect has c.args.bound c.in-Some.goal.now.depth c.len-made.result _ c.len-count.result
    c.has_room.result
    (ap (λ (x : _). x.depth)
    (sym (same_goal g.L.Rules.calculus g.L.Rules.occurs g.L.Rules.allows c.args.self.now c.requires.order
    c.args.reason.now c.in-Some-2.effect has c.in-Some.goal.now next.0 next.1)))
    (c.len-made.ensures ∙ c.args.self.now.made.ok.0)
    (others_are g.L.Rules.calculus g.L.Rules.occurs g.L.Rules.allows c.args.self.now c.requires.order c.args.reason.now
    c.in-Some-2.effect has c.len-others.result (c.len-others.ensures ∙ c.args.self.now.goals.ok.0))
    (c.len-count.ensures ∙ c.in-Some-2.effect.premises.ok.0) c.has_room.ensures.fits ∙ c.if-not-has_room.true

pub returns : goal.returns
returns g c =
    let next = top_next c.args.self.now.goals.items c.deref.result.now c.in-Some.goal.now c.deref.ensures.value
    c.in-Some.ensures.value in
    let has = subst (IsNextEffect g.L.Rules.calculus c.args.self.now c.args.reason.now)
    c.in-Some-2.is c.in_ok-effect.ensures in
    may_take g.L.Rules.calculus g.L.Rules.occurs g.L.Rules.allows c.args.self.now c.requires.order c.args.reason.now
    c.in-Some-2.effect has c.args.bound c.in-Some.goal.now.depth c.len-made.result _ c.len-count.result
    c.ranges.bound.fits
    (ap (λ (x : _). x.depth)
    (sym (same_goal g.L.Rules.calculus g.L.Rules.occurs g.L.Rules.allows c.args.self.now c.requires.order
    c.args.reason.now c.in-Some-2.effect has c.in-Some.goal.now next.0 next.1)))
    (c.len-made.ensures ∙ c.args.self.now.made.ok.0)
    (others_are g.L.Rules.calculus g.L.Rules.occurs g.L.Rules.allows c.args.self.now c.requires.order c.args.reason.now
    c.in-Some-2.effect has c.len-others.result (c.len-others.ensures ∙ c.args.self.now.goals.ok.0))
    (c.len-count.ensures ∙ c.in-Some-2.effect.premises.ok.0) (sym c.has_room.ensures.fits ∙ c.if-not-has_room.false)
