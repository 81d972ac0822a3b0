-- A rule's answer is sound where the table's is.
use Rattle.std.proofs.Common.{ℕ, ◌≡◌, List, false, subst, ap}
use Rattle.cyc_basics.specs.declared.limits.Limits.{Limits}
use Rattle.heap_formula.specs.declared.proof_rules.RuleFault.TheVariants.{TooManyAtoms, NoFreshVariable}
use Rattle.std.specs.Prelude.{Result, Ok, Err, Vec, IfOk}
use Rattle.std.specs.declared.alloc.Global.{Global}
use Rattle.heap_formula.specs.declared.commands.Command.{Command}
use Rattle.heap_formula.specs.declared.judgements.Judgement.{Judgement}
use Rattle.heap_formula.specs.declared.judgements.Premise.{Premise}
use Rattle.heap_formula.specs.declared.proof_rules.RuleError.{RuleError}
use Rattle.heap_formula.specs.Definitions.{Definition}
use Rattle.heap_formula.specs.Judgements.{IsLocallySound}
use Rattle.rule_table.specs.Answer.{Answer, needs, limited, each_heap, is_short, has_numbers}
use Rattle.rule_table.specs.Answered.{IsAnswer}
use Rattle.rule_table.specs.Soundness.{IsSound}

pub sound_answer_all : (j : Judgement) (r : Result (Vec Premise Global) RuleError) (answer : Answer) → IsAnswer r answer
    → ((ds : List Definition) (lines : List Command) → IsSound ds lines j answer)
    → IfOk r (λ v. (ds : List Definition) (lines : List Command) → IsLocallySound ds lines j v.items)
sound_answer_all j (Ok v) answer is sound = λ ds lines. subst (λ x. IsSound ds lines j x) is (sound ds lines)
sound_answer_all j (Err e) answer is sound = tt

-- ---- the last two faults

pub limited_long : (most : Limits) (ps : List Premise) → each_heap (is_short most) ps ≡ false
    → limited most ps ≡ Err TooManyAtoms
limited_long most ps long = ap (λ b. needs b TooManyAtoms (needs (each_heap has_numbers ps) NoFreshVariable (Ok ps)))
    long

pub sound_answer_for : (ds : List Definition) (j : Judgement) (r : Result (Vec Premise Global) RuleError)
    (answer : Answer) (Q : List Command → Type 0) → IsAnswer r answer
    → ((lines : List Command) → Q lines → IsSound ds lines j answer)
    → IfOk r (λ v. (lines : List Command) → Q lines → IsLocallySound ds lines j v.items)
sound_answer_for ds j (Ok v) answer Q is sound = λ lines q. subst (λ x. IsSound ds lines j x) is (sound lines q)
sound_answer_for ds j (Err e) answer Q is sound = tt

pub sound_answer_any : (j : Judgement) (r : Result (Vec Premise Global) RuleError) (answer : Answer)
    (Q : List Command → Type 0) → IsAnswer r answer → ((ds : List Definition) (lines : List Command) → Q lines
    → IsSound ds lines j answer) → IfOk r (λ v. (ds : List Definition) (lines : List Command) → Q lines
    → IsLocallySound ds lines j v.items)
sound_answer_any j (Ok v) answer Q is sound = λ ds lines q. subst (λ x. IsSound ds lines j x) is (sound ds lines q)
sound_answer_any j (Err e) answer Q is sound = tt

pub sound_answer_of : (ds : List Definition) (j : Judgement) (r : Result (Vec Premise Global) RuleError)
    (answer : Answer) → IsAnswer r answer → ((lines : List Command) → IsSound ds lines j answer)
    → IfOk r (λ v. (lines : List Command) → IsLocallySound ds lines j v.items)
sound_answer_of ds j (Ok v) answer is sound = λ lines. subst (λ x. IsSound ds lines j x) is (sound lines)
sound_answer_of ds j (Err e) answer is sound = tt
