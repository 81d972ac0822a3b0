-- Characters that are one name or number so far.
use Rattle.std.specs.Prelude.{◌≡◌, ℕ, ◌≤◌, Bool, true, false, ◌==◌, List, [], ◌∷◌, length, take, Option, Some, None}
use Rattle.std.specs.Char.{is_ascii_digit}
use Rattle.std.specs.List.{list_all}
use Rattle.std.specs.Str.{chars, IsUtf8}
use Rattle.std.specs.Str.Lossy.{utf8_valid_len}
use Rattle.cyc_lex.specs.declared.place.Run.{Run}
use Rattle.cyc_lex.specs.declared.place.Run.TheVariants as runs
use Rattle.cyc_lex.specs.Characters.{is_space, starts_name, goes_on}
use Rattle.piecewise_lex.specs.declared.run.KnownText.{KnownText}
use Rattle.piecewise_lex.specs.Feeding.{is_cut}

-- whether a character that is neither a space nor a '#' begins a run, whatever comes after it
abbrev pub BeginsSolid : Run → ℕ → Type 0
BeginsSolid runs.Comment c = ⊥
BeginsSolid runs.Name c = starts_name c ≡ true
BeginsSolid runs.Number c = (starts_name c ≡ false) × (is_ascii_digit c ≡ true)

abbrev pub Begins : Run → ℕ → Type 0
Begins run c = (is_space c ≡ false) × ((c == 35) ≡ false) × BeginsSolid run c

-- the characters are a run
abbrev pub IsRun : Run → List ℕ → Type 0
IsRun run [] = ⊥
IsRun run (c ∷ cs) = Begins run c × (list_all (goes_on run) cs ≡ true)

-- so many of the bytes are one
pub record IsKnownRun (comment : Bool) (bytes : List ℕ) (known : KnownText) : Type 0 where
  pub solid : comment ≡ false
  pub within : known.len ≤ length bytes
  pub utf8 : IsUtf8 (take known.len bytes)
  pub run : IsRun known.run (chars (take known.len bytes))

abbrev pub IsKnown : Bool → List ℕ → Option KnownText → Type 0
IsKnown comment bytes None = Unit {0}
IsKnown comment bytes (Some known) = IsKnownRun comment bytes known

-- all of the bytes are one, but for a character that is cut
pub record IsAllRun (bytes : List ℕ) (known : KnownText) : Type 0 where
  pub front : IsKnownRun false bytes known
  pub cut : is_cut bytes ≡ true
  pub size : utf8_valid_len bytes ≡ known.len

abbrev pub Lengthens : List ℕ → Option KnownText → Type 0
Lengthens bytes None = Unit {0}
Lengthens bytes (Some known) = IsAllRun bytes known
