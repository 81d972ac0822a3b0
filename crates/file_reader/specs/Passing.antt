-- Tokens that are passed over, since a syntax fault is known and only a bad place may still go before it.
use Rattle.std.specs.Prelude.{◌≡◌, ℕ, ◌+◌, Bool, List, ◌++◌, length, Result, Ok, Err}
use Rattle.std.specs.Str.{IsUtf8}
use Rattle.cyc_lex.specs.declared.place.Place.{Place}
use Rattle.cyc_lex.specs.declared.place.Stop.{Stop}
use Rattle.cyc_lex.specs.Lexing.{HasRoom, Stops, with_tokens}
use Rattle.cyc_lex.specs.Placed.{Placed}
use Rattle.piecewise_lex.specs.Feeding.{tokens_from}
use Rattle.piecewise_lex.specs.Taking.{reading, tokens_in, Waits}
use Rattle.file_reader.specs.declared.passing.Passed.{Passed}

-- these tokens were passed, whatever bytes come after the text; all that is left waits
pub record IsPassed (p : Place) (comment : Bool) (text : List ℕ) (to : Passed) : Type 0 where
  pub tokens : List Placed
  pub law : (more : List ℕ) → tokens_from p comment (text ++ more)
      ≡ with_tokens tokens (tokens_from to.place to.comment (to.rest.now ++ more))
  pub size : to.place.offset + length to.rest.now ≡ p.offset + length text
  pub room : HasRoom to.place (length to.rest.now)
  pub utf8 : IsUtf8 to.rest.now
  pub waits : Waits (reading to.place to.comment to.rest.now)

-- the fault is the first of the tokens that do not wait
abbrev pub Passes : Place → Bool → List ℕ → Result Passed Stop → Type 0
Passes p comment text (Ok to) = IsPassed p comment text to
Passes p comment text (Err e) = Stops e (tokens_in (reading p comment text))
