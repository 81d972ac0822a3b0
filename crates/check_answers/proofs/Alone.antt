-- What a run of the checker alone says of what was told.
use Rattle.std.proofs.Common.{◌≡◌, ◌≤◌, ℕ, zero, suc, List, length, refl, sym, subst, arith, Option, Some}
use Rattle.std.specs.Prelude.{Ok}
use Rattle.std.specs.Io.KnownBytes.{Appends}
use Rattle.buchi_inclusion.specs.Answers.{HasAtMost}
use Rattle.proof_file.specs.declared.file.ProofFile.{ProofFile}
use Rattle.proof_file.specs.Reading.{IsRead}
use Rattle.proof_check.specs.Verdicts.{file_graph, state_limit, IsCorrect, RootHolds}
use Rattle.cyc_io.specs.Bytes.{AppendsProperPrefix}
use Rattle.cyc_runs.specs.declared.endings.Status.{Status}
use Rattle.cyc_runs.specs.declared.endings.Status.TheVariants as status
use Rattle.cyc_runs.specs.Runs.{IsAnswerOf, WroteAnswer, WrotePart, input_limit}
use Rattle.cyc_runs.proofs.Told.{some_told, told_is}
use Rattle.check_answers.specs.Answers.{IsAnswer, IsChecked, ToldFileOf, usage_text}
use Rattle.check_answers.proofs.Checks.{check_accepts, check_refuses, one_check, success_holds}

-- ---- checks

pub told_holds : (told old new : Option (List ℕ)) (s : Status) → WroteAnswer (IsAnswerOf IsChecked) told old new s
    → s ≡ status.Success → ToldFileOf RootHolds told
told_holds told old new s (text, (input, is, answer), wrote) e =
    (input, is, success_holds input text (subst (λ s. IsAnswerOf IsChecked input s text) e answer))

pub told_refused : (told old new : Option (List ℕ)) (s : Status) → WroteAnswer (IsAnswerOf IsChecked) told old new s
    → s ≡ status.Refused → ToldFileOf (λ file. ¬ IsCorrect file) told
told_refused told old new s (text, (input, is, answer), wrote) e =
    (input, is, check_refuses input text (subst (λ s. IsAnswerOf IsChecked input s text) e answer))

-- what was written answers the told input
answer_for : (told old new : Option (List ℕ)) (input : List ℕ) (s : Status) → told ≡ Some input
    → WroteAnswer (IsAnswerOf IsChecked) told old new s → (text : List ℕ) × IsAnswerOf IsChecked input s text
answer_for told old new input s e (text, (other, is, answer), wrote) =
    (text, subst (λ i. IsAnswerOf IsChecked i s text) (sym (told_is told input other e is)) answer)

pub told_accepted : (told old new : Option (List ℕ)) (input : List ℕ) (file : ProofFile) (s : Status)
    → told ≡ Some input → length input ≤ input_limit → IsRead input (Ok file) → IsCorrect file
    → HasAtMost (file_graph file) state_limit → WroteAnswer (IsAnswerOf IsChecked) told old new s → s ≡ status.Success
told_accepted told old new input file s e short read correct few wrote =
    let answer = answer_for told old new input s e wrote in
    check_accepts input file s answer.0 short read correct few answer.1

pub told_one : (words : ℕ) (told old new : Option (List ℕ)) (input : List ℕ) (s t : Status) (text : List ℕ) → 0 ≡ words
    → told ≡ Some input → IsAnswer words input t text → WroteAnswer (IsAnswerOf IsChecked) told old new s → s ≡ t
told_one words told old new input s t text none e expected wrote =
    let answer = answer_for told old new input s e wrote in
    (one_check input s t answer.0 text answer.1 (subst (λ n. IsAnswer n input t text) (sym none) expected)).0

-- without words a check is what is answered
pub checked_wrote : (words : ℕ) (told old new : Option (List ℕ)) (s : Status) → 0 ≡ words
    → WroteAnswer (IsAnswerOf IsChecked) told old new s → WroteAnswer (IsAnswer words) told old new s
checked_wrote words told old new s none wrote = subst (λ n. WroteAnswer (IsAnswer n) told old new s) none wrote

pub checked_part : (words : ℕ) (told old new : Option (List ℕ)) → 0 ≡ words
    → WrotePart (IsAnswerOf IsChecked) told old new → WrotePart (IsAnswer words) told old new
checked_part words told old new none wrote = subst (λ n. WrotePart (IsAnswer n) told old new) none wrote

-- ---- words

-- words are answered by the usage
pub usage_wrote : (words : ℕ) (told old new : Option (List ℕ)) (ending : Status) → 1 ≤ words
    → (ending ≡ status.Usage) × Appends old new usage_text → WroteAnswer (IsAnswer words) told old new ending
usage_wrote zero told old new ending some wrote = absurd (omega arith)
usage_wrote (suc n) told old new ending some wrote = let t = some_told told in
    (usage_text, (t.0, t.1, (wrote.0, refl)), wrote.1)

pub usage_part : (words : ℕ) (told old new : Option (List ℕ)) → 1 ≤ words → AppendsProperPrefix old new usage_text
    → WrotePart (IsAnswer words) told old new
usage_part zero told old new some wrote = absurd (omega arith)
usage_part (suc n) told old new some wrote = let t = some_told told in
    (status.Usage, (usage_text, (t.0, t.1, (refl, refl)), wrote))

pub usage_status : (words : ℕ) (input : List ℕ) (t : Status) (text : List ℕ) → 1 ≤ words → IsAnswer words input t text
    → t ≡ status.Usage
usage_status zero input t text some is = absurd (omega arith)
usage_status (suc n) input t text some is = is.0
