use Rattle.std.proofs.Common.{List, subst, arith}
use Rattle.std.specs.Prelude.{◌↔◌, IsTrue}
use Rattle.model_check.specs.WideMasks.{number}
use Rattle.model_check.specs.Ground.{Unions}
use Rattle.model_check.specs.Tables.{HasMask}
use Rattle.model_check.specs.declared.ground.Piece.{Piece}
use Rattle.model_check.specs.declared.ground.GroundRule.{GroundRule}
use Rattle.general_models.proofs.SomeOf.{found, passed, none, excluded, yes, no}
use Rattle.general_models.proofs.general.some_gives.Goals as goal

pub returns-then-given : goal.returns-then-given
returns-then-given c =
    let i = subst (λ (ys : List Piece). IsTrue c.in_ok-given.given
    ↔ Unions (HasMask c.args.table.now) ys (number c.args.whole.now)) c.as_slice.ensures c.in_ok-given.ensures in
    yes (found (λ (r : GroundRule). Unions (HasMask c.args.table.now) r.pieces (number c.args.whole.now))
    c.args.rules.now c.loop-rule.rule-index c.loop-rule.invariant c.rule-item.result c.loop-rule-test.true
    c.rule-item.is (i.0 c.if-given.true))

pub loop-rule-preserved : goal.loop-rule-preserved
loop-rule-preserved c =
    let i = subst (λ (ys : List Piece). IsTrue c.in_ok-given.given
    ↔ Unions (HasMask c.args.table.now) ys (number c.args.whole.now)) c.as_slice.ensures c.in_ok-given.ensures in
    passed (λ (r : GroundRule). Unions (HasMask c.args.table.now) r.pieces (number c.args.whole.now))
    c.args.rules.now c.loop-rule.rule-index c.loop-rule.invariant c.rule-item.result c.loop-rule-test.true
    c.rule-item.is (excluded c.in_ok-given.given c.if-given.false i)

pub returns : goal.returns
returns c =
    no (none (λ (r : GroundRule). Unions (HasMask c.args.table.now) r.pieces (number c.args.whole.now))
    c.args.rules.now c.loop-rule.rule-index c.loop-rule.invariant (omega arith))
