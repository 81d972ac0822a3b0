use Rattle.std.proofs.Common.{None, sym, ◌∙◌}
use Rattle.derivations.specs.Effects.{IsEffect}
use Rattle.cyc_basics.proofs.Places.{at_index}
use Rattle.derivations.specs.Calculus.{answered, bare_calculus}
use Rattle.derivations.specs.LogicEffects.{IsEffectWith}
use Rattle.derivations.proofs.ByTarget.{ok_map, by_target}
use Rattle.derivations.proofs.found.effects.effect_of.Goals as goal

pub effect_of_link-requires-clause-companion : goal.effect_of_link-requires-clause-companion
effect_of_link-requires-clause-companion g c =
    let made = c.args.made.now in
    let m = c.in-Some-get.node.now in
    let target = c.in-Some.target in
    c.requires.occur.made target m (at_index made target m m c.in-Some-get.ensures.lookup.3.0
    (sym c.in-Some-get.ensures.lookup.1))

pub returns-in-None : goal.returns-in-None
returns-in-None g c =
    let l = g.L.Logic.logic c.args.logic.now in
    let j = c.args.goal.now.premise.judgement in
    let r = c.args.reason.now in
    ok_map (IsEffectWith (answered (l.premises j r)) None)
    (IsEffect (bare_calculus l) c.args.made.now c.args.goal.now r) c.effect_of_rule.result
    (by_target l c.args.made.now c.args.goal.now r None (sym c.target.ensures ∙ c.in-None.is)) c.effect_of_rule.ensures
