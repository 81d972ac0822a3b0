-- Every rule of the table is sound.
use Rattle.std.proofs.Common.{◌≡◌, ℕ, List, ◌≤◌, Bool, true, false, not, refl, arith}
use Rattle.cyc_basics.specs.declared.limits.Limits.{Limits}
use Rattle.heap_formula.specs.declared.commands.Command.{Command}
use Rattle.heap_formula.specs.declared.judgements.Judgement.{Judgement}
use Rattle.heap_formula.specs.declared.judgements.Judgement.TheVariants.{Entail, Term as Runs}
use Rattle.heap_formula.specs.declared.proof_rules.Rule.{Rule}
use Rattle.heap_formula.specs.declared.proof_rules.Rule.TheVariants.{Absurd, Rewrite, Split, Distinct, Weaken, Unfold}
use Rattle.heap_formula.specs.declared.proof_rules.Rule.TheVariants.{Cut, Done, Choose, PureRight, Instantiate, Frame}
use Rattle.heap_formula.specs.declared.proof_rules.Rule.TheVariants.{UnfoldRight, Exec, Drop}
use Rattle.heap_formula.specs.declared.proof_rules.RuleFault.TheVariants.{WrongJudgement}
use Rattle.heap_formula.specs.Definitions.{Definition}
use Rattle.heap_formula.specs.Words.{Each}
use Rattle.heap_formula.specs.Closedness.{IsUniversalHeap}
use Rattle.heap_formula.specs.Programs.{program_variables, has_ends}
use Rattle.heap_formula.specs.Judgements.{antecedent}
use Rattle.rule_table.specs.RuleBook.{variables_of, rule_answer}
use Rattle.rule_table.specs.Soundness.{IsSound, IsCommand, HasVariables}
use Rattle.rule_table.proofs.LeftRules.{absurd_is_sound, rewrite_is_sound, split_is_sound, distinct_is_sound}
use Rattle.rule_table.proofs.LeftRules.{weaken_is_sound, unfold_is_sound, cut_is_sound, drop_is_sound}
use Rattle.rule_table.proofs.RightRules.{done_is_sound, choose_is_sound, pure_right_is_sound, instantiate_is_sound}
use Rattle.rule_table.proofs.RightRules.{frame_is_sound, unfold_right_is_sound}
use Rattle.rule_table.proofs.Commands.{exec_is_sound}
use Rattle.rule_table.proofs.Steps.{needs_sound}

not_true : (b : Bool) → not b ≡ true → b ≡ false
not_true true e = cc
not_true false e = refl

pub has_variables : (lines : List Command) (j : Judgement) → HasVariables lines (variables_of lines j) j
has_variables lines (Entail a bs) = tt
has_variables lines (Runs i a) = let le : program_variables lines ≤ program_variables lines = omega arith in le

pub rule_is_sound : (most : Limits) (ds : List Definition) (lines : List Command) (j : Judgement) (rule : Rule)
    → IsUniversalHeap (antecedent j) → Each IsCommand lines → IsSound ds lines j (rule_answer most ds lines j rule)
rule_is_sound most ds lines j Absurd u c = absurd_is_sound ds lines j
rule_is_sound most ds lines j (Rewrite k side) u c = rewrite_is_sound ds lines (variables_of lines j) j k side u
rule_is_sound most ds lines j (Split t v) u c = split_is_sound ds lines most j t v
rule_is_sound most ds lines j (Distinct i k) u c = distinct_is_sound ds lines most j i k
rule_is_sound most ds lines j (Weaken k) u c = weaken_is_sound ds lines j k
rule_is_sound most ds lines j (Unfold k) u c = unfold_is_sound ds lines most (variables_of lines j) j k
    (has_variables lines j)
rule_is_sound most ds lines j (Cut places f) u c = cut_is_sound ds lines most (variables_of lines j) j places f
    (has_variables lines j)
rule_is_sound most ds lines j Done u c = done_is_sound ds lines j
rule_is_sound most ds lines j (Choose k) u c = choose_is_sound ds lines j k
rule_is_sound most ds lines j (PureRight k) u c = pure_right_is_sound ds lines j k
rule_is_sound most ds lines j (Instantiate v t) u c = instantiate_is_sound ds lines j v t
rule_is_sound most ds lines j (Frame i k) u c = frame_is_sound ds lines j i k
rule_is_sound most ds lines j (UnfoldRight k n) u c = unfold_right_is_sound ds lines most j k n
rule_is_sound most ds lines j Exec u c = exec_is_sound ds lines most j c
rule_is_sound most ds lines j (Drop k) u c =
    needs_sound ds lines j (not (has_ends lines)) WrongJudgement _
    (λ none. drop_is_sound ds lines (not_true (has_ends lines) none) j k)
