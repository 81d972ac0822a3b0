use Rattle.fo_formula.specs.Shapes.{HasConstant, IsOpenSequent}
use Rattle.fo_formula.specs.Soundness.{HasOpenTerms}
use Rattle.fo_formula.specs.Table.{rule_answer}
use Rattle.fo_formula.proofs.AllRules.{rule_is_sound}
use Rattle.fo_rules.proofs.LinkMaking.{sound_answer}
use Rattle.fo_rules.proofs.book.premises.Goals as goal

pub returns-clause-sound : goal.returns-clause-sound
returns-clause-sound c =
    let t = c.args.theory.now in
    let s = c.args.sequent.now in
    let rule = c.args.rule.now in
    sound_answer t s (HasConstant t) (IsOpenSequent t.constructors s) (HasOpenTerms t.constructors rule)
    c.premises_by_rule.result (rule_answer t s rule) c.premises_by_rule.ensures (rule_is_sound t s rule)
