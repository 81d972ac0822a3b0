use Rattle.std.proofs.Common.{◌≡◌, sym, ap, ◌∙◌}
use Rattle.cyc_runs.specs.declared.endings.Status.TheVariants as status
use Rattle.cyc_runs.specs.Endings.{is_answer}
use Rattle.rule_logics.proofs.Succeeding.{check_succeeded, prove_succeeded}
use Rattle.rule_logics.proofs.texts.program.run.Goals as goal

pub returns-in-Check-clause-headline : goal.returns-in-Check-clause-headline
returns-in-Check-clause-headline g c =
    let l = c.args.logic.now in
    check_succeeded (g.L.RuleLogic.rules l) (g.X.RuleText.text c.args.texts.now) (g.L.RuleLogic.holds l)
    (g.L.RuleLogic.means l) (g.met.L.RuleLogic.is_true l) _ _ _ _ _ c.in-Check.is c.run_over.ensures.answered

pub returns-in-Prove-clause-headline : goal.returns-in-Prove-clause-headline
returns-in-Prove-clause-headline g c =
    let l = c.args.logic.now in
    prove_succeeded (g.L.RuleLogic.rules l) (g.X.RuleText.text c.args.texts.now) (g.L.RuleLogic.holds l)
    (g.L.RuleLogic.means l) (g.met.L.RuleLogic.is_true l)
    _ _ _ _ _ _ c.in-Prove.is c.run_over-in-Prove.ensures.answered

pub returns-in-Usage-clause-headline : goal.returns-in-Usage-clause-headline
returns-in-Usage-clause-headline g c e =
    let is : c.give_made.result ≡ status.Usage = (c.give_made.ensures.whole status.Usage _ c.usage.ensures
    (ap is_answer e)).0 in
    absurd (let both : status.Success ≡ status.Usage = sym e ∙ is in cc)
