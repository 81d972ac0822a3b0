-- What success of a run says.
use Rattle.std.proofs.Common.{◌≡◌, ℕ, inl, inr, true, refl, sym, subst, List, Option}
use Rattle.cyc_runs.specs.declared.endings.Status.{Status}
use Rattle.cyc_runs.specs.declared.endings.Status.TheVariants as status
use Rattle.cyc_runs.specs.Endings.{is_answer}
use Rattle.cyc_runs.specs.Runs.{Answering, IsAnswerOf, WroteAnswer}
use Rattle.rule_logics.specs.Rules.{RuleValue}
use Rattle.rule_logics.specs.declared.texts.program.Task.{Task}
use Rattle.rule_logics.specs.declared.texts.program.Task.TheVariants.{Check, Prove}
use Rattle.rule_logics.specs.Text.{TextValue}
use Rattle.rule_logics.specs.Answers.{IsChecked, IsProvedWithin}
use Rattle.rule_logics.specs.Tasks.{Succeeded}
use Rattle.rule_logics.proofs.Answered.{checked, proved}

-- an answer to an input that is not too long
within : (answers : Answering) (input text : List ℕ) → IsAnswerOf answers input status.Success text
    → answers input status.Success text
within answers input text (inl long) = absurd (let e : status.Success ≡ status.Limit = long.1 in cc)
within answers input text (inr is) = is

wrote : (answers : Answering) (told old new : Option (List ℕ)) (ending : Status) → ending ≡ status.Success
    → (is_answer ending ≡ true → WroteAnswer (IsAnswerOf answers) told old new ending)
    → WroteAnswer (IsAnswerOf answers) told old new status.Success
wrote answers told old new ending e answered =
    subst (λ (s : Status). (is_answer s ≡ true → WroteAnswer (IsAnswerOf answers) told old new s)
    → WroteAnswer (IsAnswerOf answers) told old new status.Success) (sym e) (λ h. h refl) answered

module _ {J R F : Type 0} (c : RuleValue J R F) (x : TextValue J R F) (Holds : (ℕ → ℕ) → J → Type 0)
    (Means : J → Type 0) (is_true : (j : J) → ((σ : ℕ → ℕ) → Holds σ j) → Means j) (task : Task)
    (told old new : Option (List ℕ)) (ending : Status) where
  pub check_succeeded : task ≡ Check → (is_answer ending ≡ true
      → WroteAnswer (IsAnswerOf (IsChecked c x Holds)) told old new ending) → ending ≡ status.Success
      → Succeeded c x Holds Means task told old new
  check_succeeded is answered e =
      let w = wrote (IsChecked c x Holds) told old new ending e answered in
      subst (λ (t : Task). Succeeded c x Holds Means t told old new) (sym is)
      (w.1.0, w.1.1, checked c x Holds Means is_true w.1.0 w.0 (within (IsChecked c x Holds) w.1.0 w.0 w.1.2))

  pub prove_succeeded : (depth : ℕ) → task ≡ Prove depth
      → (is_answer ending ≡ true → WroteAnswer (IsAnswerOf (IsProvedWithin c x Holds depth)) told old new ending)
      → ending ≡ status.Success → Succeeded c x Holds Means task told old new
  prove_succeeded depth is answered e =
      let w = wrote (IsProvedWithin c x Holds depth) told old new ending e answered in
      subst (λ (t : Task). Succeeded c x Holds Means t told old new) (sym is) (
        w.1.0,
        w.0,
        w.1.1,
        w.2,
        proved c x Holds Means is_true depth w.1.0 w.0
            (within (IsProvedWithin c x Holds depth) w.1.0 w.0 w.1.2),
      )
