-- The answers to an input, over what a source tells of it, and what is written of them.
use Rattle.std.specs.Prelude.{◌≡◌, ◌+◌, ◌<◌, ◌⊎◌, ℕ, List, length, Option, Some, None}
use Rattle.std.specs.Io.KnownBytes.{Appends, IsAtEnd}
use Rattle.cyc_io.specs.Bytes.{AppendsProperPrefix, Came}
use Rattle.cyc_runs.specs.Texts.{input_limit_text}
use Rattle.cyc_runs.specs.declared.endings.Status.{Status}
use Rattle.cyc_runs.specs.declared.pieces.TheConstants.{INPUT_LIMIT}
use Rattle.cyc_runs.specs.declared.endings.Status.TheVariants as status

-- the greatest length of an input, in bytes
abbrev pub input_limit : ℕ
input_limit = INPUT_LIMIT

-- which status and which text answer an input
abbrev pub Answering : Type 1
Answering = List ℕ → Status → List ℕ → Type 0

-- the input is too long, and this is said of it
abbrev pub IsTooLong : List ℕ → Status → List ℕ → Type 0
IsTooLong input ending text = (input_limit < length input) × (ending ≡ status.Limit) × (text ≡ input_limit_text)

-- the input is too long, or it is answered so
abbrev pub IsAnswerOf : Answering → List ℕ → Status → List ℕ → Type 0
IsAnswerOf answers input ending text = IsTooLong input ending text ⊎ answers input ending text

-- the input is what a source told, where it tells
abbrev pub IsTold : Option (List ℕ) → List ℕ → Type 0
IsTold None input = Unit {0}
IsTold (Some told) input = told ≡ input

-- the source is at its end, or one byte more came than an input may have
abbrev pub IsReadThrough : Option (List ℕ) → Option (List ℕ) → Type 0
IsReadThrough old new = IsAtEnd new ⊎ Came old new (input_limit + 1)

-- some input, which is the one that was told, is answered so
abbrev pub AnswersTold : Answering → Option (List ℕ) → Status → List ℕ → Type 0
AnswersTold answers told ending text = (input : List ℕ) × IsTold told input × answers input ending text

-- the whole text of the answer was written
abbrev pub WroteAnswer : Answering → Option (List ℕ) → Option (List ℕ) → Option (List ℕ) → Status → Type 0
WroteAnswer answers told old new ending = (text : List ℕ) × AnswersTold answers told ending text × Appends old new text

-- a proper prefix of the text of an answer was written
abbrev pub WrotePart : Answering → Option (List ℕ) → Option (List ℕ) → Option (List ℕ) → Type 0
WrotePart answers told old new = (ending : Status)
    × ((text : List ℕ) × AnswersTold answers told ending text × AppendsProperPrefix old new text)
