-- What is taken of a text: all that does not wait.
use Rattle.std.specs.Prelude.{◌≡◌, map, Result, Ok, Err}
use Rattle.std.specs.Str.{encode_utf8_all}
use Rattle.cyc_lex.specs.declared.place.Stop.{Stop}
use Rattle.cyc_lex.specs.Lexing.{Stops}
use Rattle.piecewise_lex.specs.declared.fronts.Front.{Front}
use Rattle.piecewise_lex.specs.Owned.{owned}
use Rattle.piecewise_lex.specs.Taking.{Reading, tokens_in, held_in, place_in, comment_in}

pub record IsFront (r : Reading) (f : Front) : Type 0 where
  pub tokens : tokens_in r ≡ Ok (map owned f.tokens.items)
  pub place : f.place ≡ place_in r
  pub comment : f.comment ≡ comment_in r
  pub waits : f.waits.now ≡ encode_utf8_all (held_in r)

abbrev pub Fronts : Reading → Result Front Stop → Type 0
Fronts r (Ok f) = IsFront r f
Fronts r (Err e) = Stops e (tokens_in r)
