-- Whether an input is a run or a problem.
use Rattle.std.specs.Prelude.{ℕ, Bool, false, ◌&&◌, List, [], ◌∷◌, codes, Result, Ok, Err}
use Rattle.std.specs.Str.{bytes_eq}
use Rattle.cyc_lex.specs.declared.place.Place.{Place}
use Rattle.cyc_lex.specs.declared.place.Bad.{Bad}
use Rattle.cyc_lex.specs.Lexing.{tokens_of}
use Rattle.cyc_lex.specs.Placed.{Placed}
use Rattle.cyc_lex.specs.Word.{is_name}

abbrev pub is_run_word : Placed → Bool
is_run_word token = is_name token.kind && bytes_eq token.text (codes "run")

-- the second of the tokens is the word `run`
abbrev pub are_of_run : List Placed → Bool
are_of_run [] = false
are_of_run (first ∷ []) = false
are_of_run (first ∷ second ∷ others) = is_run_word second

abbrev pub has_run_word : Result (List Placed) (Bad × Place) → Bool
has_run_word (Ok tokens) = are_of_run tokens
has_run_word (Err bad) = false

-- the input is read as a run file, and otherwise as a problem
abbrev pub is_run_text : List ℕ → Bool
is_run_text bytes = has_run_word (tokens_of bytes)
