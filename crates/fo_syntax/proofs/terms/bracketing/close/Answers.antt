use Rattle.std.proofs.Common.{◌≡◌, ◌++◌, ◌∷◌, [], length, refl, sym, ap, ◌∙◌, arith, append_assoc}
use Rattle.std.specs.Prelude.{map}
use Rattle.std.proofs.lemmas.List.{map_push, nil_from_length}
use Rattle.cyc_grammar.proofs.WrittenTexts.{on-ok}
use Rattle.fo_syntax.specs.Seen.{mark_seen}
use Rattle.fo_syntax.specs.Brackets.{Closing, closings, behind_next}
use Rattle.fo_syntax.proofs.CountLaws.{closed-all, closed-here, next-here}
use Rattle.fo_syntax.proofs.terms.bracketing.close.Goals as goal

pub loop-init : goal.loop-init
loop-init c = (refl, (refl, omega arith))

pub returns-in-None-clause-marks : goal.returns-in-None-clause-marks
returns-in-None-clause-marks c = closed-all (map mark_seen c.loop.marks.items) c.loop.waits
    (map mark_seen c.args.marks.now.items ++ closings c.args.waits.now) c.in-None.ensures.0 c.loop.invariant.0

pub returns-in-None-clause-waits : goal.returns-in-None-clause-waits
returns-in-None-clause-waits c = c.in-None.ensures.1 ∙ ap behind_next (sym c.in-None.ensures.0) ∙ c.loop.invariant.1.0

pub returns-in-Some-clause-marks : goal.returns-in-Some-clause-marks
returns-in-Some-clause-marks c =
    on-ok c.push-in-Some.result (λ e. closed-here (map mark_seen c.loop.marks.items)
    c.loop.waits c.pop.new.self c.in-Some.number (map mark_seen c.args.marks.now.items ++ closings c.args.waits.now)
    (omega (arith, c.in-Some.number-test.1)) c.in-Some.ensures c.loop.invariant.0) c.push-in-Some.ensures

pub returns-in-Some-clause-waits : goal.returns-in-Some-clause-waits
returns-in-Some-clause-waits c =
    on-ok c.push-in-Some.result (λ e. e ∙ next-here c.loop.waits c.pop.new.self c.in-Some.number
    (behind_next c.args.waits.now) (omega (arith, c.in-Some.number-test.1)) c.in-Some.ensures c.loop.invariant.1.0)
    c.push-in-Some.ensures

pub loop-preserved : goal.loop-preserved
loop-preserved c =
    let is : c.loop.waits ≡ 0 ∷ c.pop.new.self = c.in-Some-eq0.ensures
    ∙ ap (λ k. k ∷ c.pop.new.self) c.in-Some-eq0.field-0-test in
    let pushed : map mark_seen c.push.new.self.items ≡ map mark_seen c.loop.marks.items ++ Closing
    ∷ [] = ap (map mark_seen) c.in_ok-push-in-Some-eq0.ensures.items ∙ map_push mark_seen c.loop.marks.items _ in (
      ap (λ ms. ms ++ closings c.pop.new.self) pushed
          ∙ append_assoc (map mark_seen c.loop.marks.items) (Closing ∷ []) (closings c.pop.new.self)
          ∙ ap (λ w. map mark_seen c.loop.marks.items ++ closings w) (sym is) ∙ c.loop.invariant.0,
      (ap behind_next (sym is) ∙ c.loop.invariant.1.0, omega (arith, ap length is, c.loop.invariant.1.1)),
    )

pub returns-clause-marks : goal.returns-clause-marks
returns-clause-marks c = closed-all (map mark_seen c.loop.marks.items) c.loop.waits
    (map mark_seen c.args.marks.now.items ++ closings c.args.waits.now)
    (nil_from_length c.loop.waits (omega (arith, c.loop-test.false, c.len-end.ensures, c.loop.invariant.1.1)))
    c.loop.invariant.0

pub returns-clause-waits : goal.returns-clause-waits
returns-clause-waits c =
    let none = nil_from_length c.loop.waits (omega (arith, c.loop-test.false, c.len-end.ensures, c.loop.invariant.1.1))
    in
    none ∙ ap behind_next (sym none) ∙ c.loop.invariant.1.0
