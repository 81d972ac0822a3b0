-- What is answered to words.
use Rattle.std.proofs.Common.{◌≡◌, ℕ, false, List, Option, Some, None, refl, sym, subst}
use Rattle.std.specs.Io.KnownBytes.{Appends}
use Rattle.cyc_io.specs.Bytes.{AppendsProperPrefix}
use Rattle.cyc_runs.specs.Runs.{IsAnswerOf, WroteAnswer, WrotePart}
use Rattle.cyc_runs.specs.declared.endings.Status.{Status}
use Rattle.cyc_runs.specs.declared.endings.Status.TheVariants.{Usage}
use Rattle.cyc_runs.proofs.Told.{some_told}
use Rattle.solve_top.specs.Answers.{EndAlike, IsAnswer, IsAnswerWith, IsSolved, usage_text}
use Rattle.script_answers.specs.Begins.{is_script_text}
use Rattle.solve_top.specs.Words.{effort_of}
use Rattle.solve_top.proofs.Exact.{solved_alike, usage_alike}

module _ (words : List (List ℕ)) (told old new : Option (List ℕ)) where
  -- words that ask for an effort were answered by a solution
  pub effort_wrote : (effort : ℕ) (ending : Status) → effort_of words ≡ Some effort
      → WroteAnswer (IsAnswerOf IsSolved) told old new ending → WroteAnswer (IsAnswer words) told old new ending
  effort_wrote effort ending is wrote = subst (λ (e : Option ℕ). WroteAnswer (IsAnswerWith e) told old new ending)
      (sym is) wrote

  pub effort_part : (effort : ℕ) → effort_of words ≡ Some effort → WrotePart (IsAnswerOf IsSolved) told old new
      → WrotePart (IsAnswer words) told old new
  effort_part effort is wrote = subst (λ (e : Option ℕ). WrotePart (IsAnswerWith e) told old new) (sym is) wrote

  pub effort_ends : (effort : ℕ) (input : List ℕ) (s t : Status) (ys : List ℕ) → effort_of words ≡ Some effort
      → told ≡ Some input → IsAnswer words input t ys → is_script_text input ≡ false
      → WroteAnswer (IsAnswerOf IsSolved) told old new s → EndAlike s t
  effort_ends effort input s t ys is e expected plain wrote =
      solved_alike told old new input s t ys e (subst (λ (o : Option ℕ). IsAnswerWith o input t ys) is expected)
      plain wrote

  -- words without a meaning were answered by the usage
  pub usage_wrote : (ending : Status) → effort_of words ≡ None → (ending ≡ Usage) × Appends old new usage_text
      → WroteAnswer (IsAnswer words) told old new ending
  usage_wrote ending is wrote =
      let t = some_told told in
      let answer : WroteAnswer (IsAnswerWith None) told old new ending =
      (usage_text, (t.0, t.1, (wrote.0, refl)), wrote.1) in
      subst (λ (e : Option ℕ). WroteAnswer (IsAnswerWith e) told old new ending) (sym is) answer

  pub usage_part : effort_of words ≡ None → AppendsProperPrefix old new usage_text
      → WrotePart (IsAnswer words) told old new
  usage_part is wrote =
      let t = some_told told in
      let answer : WrotePart (IsAnswerWith None) told old new = (Usage, (usage_text, (t.0, t.1, (refl, refl)), wrote))
      in
      subst (λ (e : Option ℕ). WrotePart (IsAnswerWith e) told old new) (sym is) answer

  pub usage_ends : (input : List ℕ) (s t : Status) (ys : List ℕ) → effort_of words ≡ None → IsAnswer words input t ys
      → s ≡ Usage → EndAlike s t
  usage_ends input s t ys is expected e = usage_alike input s t ys
      (subst (λ (o : Option ℕ). IsAnswerWith o input t ys) is expected) e
