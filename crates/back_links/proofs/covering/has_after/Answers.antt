use Rattle.std.proofs.Common.{◌≡◌, ◌+◌, List, ◌∷◌, Bool, true, false, ◌||◌, drop, map, refl, sym, ap, ◌∙◌, true≢false}
use Rattle.std.proofs.lemmas.List.{at_drop_more, at_drop_all}
use Rattle.heap_formula.specs.declared.atoms.Pure.{Pure}
use Rattle.heap_formula.specs.Substitution.{apply_pure}
use Rattle.rule_table.specs.Tests.{has_pure}
use Rattle.back_links.proofs.covering.has_after.Goals as goal

skipped : (a b : Bool) → false ≡ (a || false) → (a || b) ≡ b
skipped true b e = absurd (true≢false (sym e))
skipped false b e = refl

found : (a b : Bool) → true ≡ (a || false) → (a || b) ≡ true
found true b e = refl
found false b e = absurd (true≢false e)

pub loop-y-preserved : goal.loop-y-preserved
loop-y-preserved c =
    let has = λ (ys : List Pure). has_pure (map (apply_pure c.args.subst.now) ys) c.args.x in
    let rest = map (apply_pure c.args.subst.now) (drop (c.loop-y.y-index + 1) c.args.pures.now) in
    sym (at_drop_more has c.args.pures.now c.loop-y.y-index _ c.loop-y-test.true
    ∙ ap (λ (y : Pure). has_pure (y ∷ rest) c.args.x) (sym c.apply_to_pure.ensures)
    ∙ skipped _ (has_pure rest c.args.x) c.if-has_pure.ensures) ∙ c.loop-y.invariant

pub returns-then-has_pure : goal.returns-then-has_pure
returns-then-has_pure c =
    let has = λ (ys : List Pure). has_pure (map (apply_pure c.args.subst.now) ys) c.args.x in
    let rest = map (apply_pure c.args.subst.now) (drop (c.loop-y.y-index + 1) c.args.pures.now) in
    sym (at_drop_more has c.args.pures.now c.loop-y.y-index _ c.loop-y-test.true
    ∙ ap (λ (y : Pure). has_pure (y ∷ rest) c.args.x) (sym c.apply_to_pure.ensures)
    ∙ found _ (has_pure rest c.args.x) c.if-has_pure.ensures) ∙ c.loop-y.invariant

pub returns : goal.returns
returns c =
    sym (at_drop_all (λ (ys : List Pure). has_pure (map (apply_pure c.args.subst.now) ys) c.args.x)
    c.args.pures.now c.loop-y.y-index c.loop-y-test.false) ∙ c.loop-y.invariant
