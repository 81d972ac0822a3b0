-- The premises of a rule are within the limits.
use Rattle.std.proofs.Common.{◌≡◌, ℕ, List, [], ◌∷◌, length, subst}
use Rattle.std.specs.Prelude.{Ok}
use Rattle.cyc_basics.specs.declared.limits.Limits.{Limits}
use Rattle.heap_formula.specs.declared.commands.Command.{Command}
use Rattle.heap_formula.specs.declared.judgements.Judgement.{Judgement}
use Rattle.heap_formula.specs.declared.judgements.Premise.{Premise}
use Rattle.heap_formula.specs.declared.proof_rules.Rule.{Rule}
use Rattle.heap_formula.specs.declared.proof_rules.Rule.TheVariants.{Split}
use Rattle.heap_formula.specs.Definitions.{Definition}
use Rattle.heap_formula.specs.Words.{Each}
use Rattle.goto_lang.specs.Lines.{IsProgram}
use Rattle.rule_table.specs.Answer.{Answer}
use Rattle.rule_table.specs.Fits.{OnPremises}
use Rattle.rule_table.specs.RuleBook.{rule_answer}
use Rattle.rule_table.specs.Soundness.{HasUniversalTerms, IsUniversalPremise}
use Rattle.rule_table.proofs.Keeps.{rule_keeps}
use Rattle.symbolic_exec.proofs.ProgramLines.{program_commands}
use Rattle.rule_book.specs.Limits.{IsJudgementWithin, IsPremiseWithin, IsDefinitionWithin, IsRuleWithin, AreEndsWithin}
use Rattle.rule_book.proofs.Judgements.{IsNearly}
use Rattle.rule_book.proofs.Within.{rule_nearly}

universal_terms : (most : Limits) (ds : List Definition) (rule : Rule) → IsRuleWithin most ds rule
    → HasUniversalTerms rule
universal_terms most ds (Split t u) r = (r.0.0, r.1.0)
universal_terms most ds rule r = tt

all_within : (most : Limits) (ds : List Definition) (n : ℕ) (ps : List Premise) → Each (IsNearly most ds n) ps
    → Each IsUniversalPremise ps → Each (IsPremiseWithin most ds n) ps
all_within most ds n [] h u = tt
all_within most ds n (p ∷ ps) h u = (
  record { heaps = h.0.0; universal = u.0; form = h.0.1 },
  all_within most ds n ps h.1 u.1,
)

pub premises_within : (most : Limits) (ds : List Definition) (lines : List Command) (j : Judgement) (rule : Rule)
    (ps : List Premise) → Each (IsDefinitionWithin most ds) ds → IsProgram lines
    → AreEndsWithin most ds lines → IsJudgementWithin most ds (length lines) j → IsRuleWithin most ds rule → rule_answer most ds lines j rule ≡ Ok ps
    → Each (IsPremiseWithin most ds (length lines)) ps
premises_within most ds lines j rule ps d g w h r e =
    let near = subst (λ (answer : Answer). OnPremises (IsNearly most ds (length lines)) answer) e
    (rule_nearly most ds lines j rule d g w h r) in
    let universal = subst (λ (answer : Answer). OnPremises IsUniversalPremise answer) e
    (rule_keeps most ds lines j rule h.universal (program_commands lines g) (universal_terms most ds rule r)) in
    all_within most ds (length lines) ps near universal
