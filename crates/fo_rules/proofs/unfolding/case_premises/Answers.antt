use Rattle.std.proofs.Common.{◌∙◌, ◌+◌, List, length, ap}
use Rattle.std.specs.Prelude.{nat_le}
use Rattle.fo_formula.specs.declared.atoms.FoAtom.{FoAtom}
use Rattle.fo_formula.specs.Table.{is_numbered, unfold_premise}
use Rattle.fo_rules.proofs.CaseMaking.{made_step, all_step}
use Rattle.fo_rules.proofs.unfolding.case_premises.Goals as goal

pub loop-case-preserved : goal.loop-case-preserved
loop-case-preserved c =
    let cases = c.args.cases.now in
    let i = c.loop-case.case-index in
    let d = c.case-item.result in
    let f = unfold_premise c.args.sequent.now c.args.i c.args.arguments.now c.args.number in
    let made = made_step f c.loop-case.premises.items c.push.new.self.items cases i d c.in_ok-case_premise.field-0 _
    c.loop-case-test.true c.in_ok-push.ensures.items (c.in_ok-case_premise.ensures
    ∙ ap f (c.as_slice.ensures ∙ c.case-item.is)) c.loop-case.invariant.0 in
    let short = all_step (λ (x : List FoAtom). nat_le (c.args.kept + length x) 32)
    cases i d c.loop-case-test.true c.loop-case.invariant.1 in
    let numbered = all_step (is_numbered c.args.number) cases i d c.loop-case-test.true c.loop-case.invariant.2 in
    (made, short.1, numbered.1)
