-- The answers of the table are sound, and keep antecedents without existentials.
use Rattle.std.proofs.Common.{ℕ, List, not, subst}
use Rattle.std.specs.Prelude.{Result, Ok, Err, Vec, IfOk}
use Rattle.std.specs.declared.alloc.Global.{Global}
use Rattle.cyc_basics.specs.declared.limits.Limits.{Limits}
use Rattle.heap_formula.specs.declared.commands.Command.{Command}
use Rattle.heap_formula.specs.declared.judgements.Judgement.{Judgement}
use Rattle.heap_formula.specs.declared.judgements.Premise.{Premise}
use Rattle.heap_formula.specs.declared.proof_rules.Rule.{Rule}
use Rattle.heap_formula.specs.declared.proof_rules.Rule.TheVariants.{Absurd, Rewrite, Split, Distinct, Weaken, Unfold}
use Rattle.heap_formula.specs.declared.proof_rules.Rule.TheVariants.{Cut, Done, Choose, PureRight, Instantiate, Frame}
use Rattle.heap_formula.specs.declared.proof_rules.Rule.TheVariants.{UnfoldRight, Exec, Drop}
use Rattle.heap_formula.specs.declared.proof_rules.RuleError.{RuleError}
use Rattle.heap_formula.specs.Closedness.{IsUniversalHeap}
use Rattle.heap_formula.specs.Definitions.{Definition}
use Rattle.heap_formula.specs.Words.{Each}
use Rattle.heap_formula.specs.Judgements.{IsLocallySound, antecedent}
use Rattle.rule_table.specs.Answer.{Answer}
use Rattle.rule_table.specs.Answered.{IsAnswer}
use Rattle.rule_table.specs.Fits.{OnPremises}
use Rattle.rule_table.specs.RuleBook.{variables_of, rule_answer}
use Rattle.rule_table.specs.Soundness.{IsSound, HasVariables, HasUniversalTerms, IsUniversalPremise}
use Rattle.goto_lang.specs.Lines.{IsProgram}
use Rattle.rule_table.proofs.AllRules.{rule_is_sound}
use Rattle.rule_table.proofs.LeftRules.{absurd_is_sound, rewrite_is_sound, split_is_sound, distinct_is_sound}
use Rattle.rule_table.proofs.LeftRules.{weaken_is_sound, unfold_is_sound, cut_is_sound, drop_is_sound}
use Rattle.rule_table.proofs.RightRules.{done_is_sound, choose_is_sound, pure_right_is_sound, instantiate_is_sound}
use Rattle.rule_table.proofs.RightRules.{frame_is_sound, unfold_right_is_sound}
use Rattle.rule_table.proofs.Keeps.{rule_keeps}
use Rattle.rule_table.proofs.Steps.{needs_sound}
use Rattle.rule_book.specs.Lines.{SuitsProgram}
use Rattle.heap_formula.specs.Programs.{has_ends}
use Rattle.heap_formula.specs.declared.proof_rules.RuleFault.TheVariants.{WrongJudgement}
use Rattle.symbolic_exec.proofs.ProgramLines.{program_commands}

-- the rules at any program that they suit, with no more variables
elsewhere : (most : Limits) (ds : List Definition) (program lines : List Command) (j : Judgement) (rule : Rule)
    → SuitsProgram lines rule → HasVariables lines (variables_of program j) j → IsUniversalHeap (antecedent j)
    → IsSound ds lines j (rule_answer most ds program j rule)
elsewhere most ds program lines j Absurd suits v u = absurd_is_sound ds lines j
elsewhere most ds program lines j (Rewrite k side) suits v u = rewrite_is_sound ds lines (variables_of program j)
    j k side u
elsewhere most ds program lines j (Split t w) suits v u = split_is_sound ds lines most j t w
elsewhere most ds program lines j (Distinct i k) suits v u = distinct_is_sound ds lines most j i k
elsewhere most ds program lines j (Weaken k) suits v u = weaken_is_sound ds lines j k
elsewhere most ds program lines j (Unfold k) suits v u = unfold_is_sound ds lines most (variables_of program j) j k v
elsewhere most ds program lines j (Cut places f) suits v u = cut_is_sound ds lines most (variables_of program j)
    j places f v
elsewhere most ds program lines j Done suits v u = done_is_sound ds lines j
elsewhere most ds program lines j (Choose k) suits v u = choose_is_sound ds lines j k
elsewhere most ds program lines j (PureRight k) suits v u = pure_right_is_sound ds lines j k
elsewhere most ds program lines j (Instantiate n t) suits v u = instantiate_is_sound ds lines j n t
elsewhere most ds program lines j (Frame i k) suits v u = frame_is_sound ds lines j i k
elsewhere most ds program lines j (UnfoldRight k n) suits v u = unfold_right_is_sound ds lines most j k n
elsewhere most ds program lines j Exec suits v u = absurd suits
elsewhere most ds program lines j (Drop k) suits v u =
    needs_sound ds lines j (not (has_ends program)) WrongJudgement _ (λ _. drop_is_sound ds lines suits j k)

module _ (most : Limits) (ds : List Definition) (program : List Command) (j : Judgement) (rule : Rule) where
  pub answer_sound : (r : Result (Vec Premise Global) RuleError) → IsProgram program
      → IsAnswer r (rule_answer most ds program j rule) → IfOk r
      (λ v. IsUniversalHeap (antecedent j) → IsLocallySound ds program j v.items)
  answer_sound (Ok v) p is = λ u. subst (λ (x : Answer). IsSound ds program j x) is
      (rule_is_sound most ds program j rule u (program_commands program p))
  answer_sound (Err e) p is = tt

  pub answer_sound_elsewhere : (r : Result (Vec Premise Global) RuleError)
      → IsAnswer r (rule_answer most ds program j rule) → IfOk r
      (λ v. (lines : List Command) → SuitsProgram lines rule → HasVariables lines (variables_of program j) j
      → IsUniversalHeap (antecedent j) → IsLocallySound ds lines j v.items)
  answer_sound_elsewhere (Ok v) is = λ lines other h u.
      subst (λ (x : Answer). IsSound ds lines j x) is (elsewhere most ds program lines j rule other h u)
  answer_sound_elsewhere (Err e) is = tt

  pub answer_keeps : (r : Result (Vec Premise Global) RuleError) → IsProgram program
      → IsAnswer r (rule_answer most ds program j rule) → IfOk r
      (λ v. IsUniversalHeap (antecedent j) → HasUniversalTerms rule → Each IsUniversalPremise v.items)
  answer_keeps (Ok v) p is = λ u t. subst (λ (x : Answer). OnPremises IsUniversalPremise x) is
      (rule_keeps most ds program j rule u (program_commands program p) t)
  answer_keeps (Err e) p is = tt
