use Rattle.std.proofs.Common.{◌≡◌, ℕ, List, false, subst}
use Rattle.std.specs.Prelude.{Result, Ok, Err, Vec, IfOk}
use Rattle.std.specs.declared.alloc.Global.{Global}
use Rattle.heap_formula.specs.declared.commands.Command.{Command}
use Rattle.heap_formula.specs.declared.judgements.Judgement.{Judgement}
use Rattle.heap_formula.specs.declared.judgements.Premise.{Premise}
use Rattle.heap_formula.specs.declared.proof_rules.RuleError.{RuleError}
use Rattle.heap_formula.specs.Definitions.{Definition}
use Rattle.heap_formula.specs.Judgements.{IsLocallySound}
use Rattle.heap_formula.specs.Programs.{has_ends}
use Rattle.rule_table.specs.Answer.{Answer}
use Rattle.rule_table.specs.Answered.{IsAnswer}
use Rattle.rule_table.specs.Soundness.{IsSound}
use Rattle.rule_table.specs.Table.{drop_answer}
use Rattle.rule_table.proofs.LeftRules.{drop_is_sound}
use Rattle.normal_form.proofs.drop_atom.premises_drop.Goals as goal

dropped_sound : (j : Judgement) (k : ℕ) (r : Result (Vec Premise Global) RuleError) → IsAnswer r (drop_answer j k)
    → IfOk r (λ v. (ds : List Definition) (lines : List Command) → has_ends lines ≡ false
    → IsLocallySound ds lines j v.items)
dropped_sound j k (Ok v) is = λ ds lines none.
    subst (λ (x : Answer). IsSound ds lines j x) is (drop_is_sound ds lines none j k)
dropped_sound j k (Err e) is = tt

pub returns-clause-sound : goal.returns-clause-sound
returns-clause-sound c =
    dropped_sound c.args.judgement.now c.args.k c.drop_atom.result c.drop_atom.ensures
