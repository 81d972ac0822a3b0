-- A check whose input comes in pieces.
use Rattle.std.proofs.Common.{◌≡◌, List, ℕ, subst, arith, inl, inr, Option}
use Rattle.file_reader.specs.Stages.{Parts, fresh}
use Rattle.file_reader.proofs.Fresh.{fresh-read}
use Rattle.cyc_runs.specs.declared.endings.Status.{Status}
use Rattle.cyc_runs.specs.Runs.{IsAnswerOf, WroteAnswer, WrotePart}
use Rattle.check_answers.specs.Answers.{IsChecked, IsCheckedFrom}

-- a reader that was fed nothing answers the text that it is to read as a check does
fresh_answer : (held : Parts) (input : List ℕ) (ending : Status) (text : List ℕ) → held ≡ fresh
    → IsAnswerOf (IsCheckedFrom held) input ending text → IsAnswerOf IsChecked input ending text
fresh_answer held input ending text is (inl long) = inl long
fresh_answer held input ending text is (inr checked) = by
    (subst (λ (s : Parts). IsCheckedFrom s input ending text) is checked)
  where
    by : IsCheckedFrom fresh input ending text → IsAnswerOf IsChecked input ending text
    by (short, read, from, answer) = inr (omega (arith, short), read, fresh-read input read from, answer)

-- what was written of its answer was written of a check's
pub fresh_wrote : (held : Parts) (told old new : Option (List ℕ)) (ending : Status) → held ≡ fresh
    → WroteAnswer (IsAnswerOf (IsCheckedFrom held)) told old new ending
    → WroteAnswer (IsAnswerOf IsChecked) told old new ending
fresh_wrote held told old new ending is (text, (input, whole, answer), wrote) =
    (text, (input, whole, fresh_answer held input ending text is answer), wrote)

pub fresh_part : (held : Parts) (told old new : Option (List ℕ)) → held ≡ fresh
    → WrotePart (IsAnswerOf (IsCheckedFrom held)) told old new → WrotePart (IsAnswerOf IsChecked) told old new
fresh_part held told old new is (ending, (text, (input, whole, answer), wrote)) =
    (ending, (text, (input, whole, fresh_answer held input ending text is answer), wrote))
