-- What comes of an input that a tool is fed in pieces.
use Rattle.std.specs.Prelude.{◌≡◌, ℕ, ◌+◌, ◌-◌, ◌≤◌, List, ◌++◌, length, Option}
use Rattle.std.specs.Io.KnownBytes.{Consumes, IsAtEnd}
use Rattle.cyc_io.specs.Bytes.{Came}
use Rattle.cyc_runs.specs.declared.endings.Status.{Status}
use Rattle.cyc_runs.specs.declared.pieces.Turn.{Turn}
use Rattle.cyc_runs.specs.declared.pieces.Turn.TheVariants as turns
use Rattle.cyc_runs.specs.declared.pieces.Extent.{Extent}
use Rattle.cyc_runs.specs.declared.pieces.Extent.TheVariants as extents
use Rattle.cyc_runs.specs.Runs.{Answering, input_limit}

-- what answers the bytes that come after a piece answers the piece with those bytes
abbrev pub KeepsAnswers : Answering → List ℕ → Answering → Type 0
KeepsAnswers old piece new =
    (rest : List ℕ) (ending : Status) (text : List ℕ) → new rest ending text → old (piece ++ rest) ending text

-- a tool was fed some bytes, which came from the source; `before` is how many came before, `after` how many in all
pub record WasFed (old new : Answering) (before after : ℕ) (told left : Option (List ℕ)) : Type 0 where
  pub bytes : List ℕ
  pub came : Consumes told left bytes
  pub count : after ≡ before + length bytes
  pub answers : KeepsAnswers old bytes new

-- one turn fed a piece, or met the end of the input, or found it too long
abbrev pub IsTurn : Answering → Answering → ℕ → ℕ → Option (List ℕ) → Option (List ℕ) → Turn → Type 0
IsTurn old new before after told left (turns.Fed count) =
    WasFed old new before after told left × (after ≡ count) × (count ≤ input_limit)
IsTurn old new before after told left turns.Ended =
    WasFed old new before before told left × (after ≡ before) × IsAtEnd left
IsTurn old new before after told left turns.PastLimit = Came told left (input_limit + 1 - before)

-- the tool, which was fed nothing before, was fed the whole input, or the input is too long
abbrev pub IsFedAll : Answering → Answering → ℕ → Option (List ℕ) → Option (List ℕ) → Extent → Type 0
IsFedAll old new after told left extents.Whole = WasFed old new 0 after told left × (after ≤ input_limit) × IsAtEnd left
IsFedAll old new after told left extents.TooLong = Came told left (input_limit + 1)
