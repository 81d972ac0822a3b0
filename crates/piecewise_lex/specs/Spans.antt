-- How many tokens a statement has, and where it ends.
use Rattle.std.specs.Prelude.{◌≡◌, ℕ, ◌+◌, ◌≤◌, Bool, true, false, ◌&&◌, List, [], ◌∷◌, ◌++◌, length, take, map, codes}
use Rattle.std.specs.Prelude.{Result, Ok, Err}
use Rattle.std.specs.List.{list_any}
use Rattle.std.specs.Str.{IsUtf8, bytes_eq, encode_utf8_all}
use Rattle.cyc_lex.specs.declared.place.Stop.{Stop}
use Rattle.cyc_lex.specs.Placed.{Placed}
use Rattle.cyc_lex.specs.Word.{word_of, is_name, is_symbol, are_lexemes}
use Rattle.cyc_lex.specs.Lexing.{HasRoom, Stops}
use Rattle.piecewise_lex.specs.declared.spans.Span.{Span}
use Rattle.piecewise_lex.specs.Taking.{Reading, reading, tokens_in, cut_in, HasTaken, Waits}

abbrev pub is_semicolon : Placed → Bool
is_semicolon t = is_symbol t.kind && bytes_eq t.text (codes ";")

-- whether a token is the name with this text
abbrev pub is_named : Placed → List ℕ → Bool
is_named t name = is_name t.kind && bytes_eq t.text name

-- the last of the tokens, and no other, is a ';'
pub record EndsThere (ts : List Placed) : Type 0 where
  pub body : List Placed
  pub last : Placed
  pub all : ts ≡ body ++ last ∷ []
  pub none : list_any is_semicolon body ≡ false
  pub semicolon : is_semicolon last ≡ true

-- no token is a ';', and all that is left waits
pub record GoesOn (ts : List Placed) (left : Reading) : Type 0 where
  pub none : list_any is_semicolon ts ≡ false
  pub waits : Waits left

abbrev pub Ends : Bool → List Placed → Reading → Type 0
Ends true ts left = EndsThere ts
Ends false ts left = GoesOn ts left

-- the first n of the tokens
abbrev pub front_tokens : ℕ → Reading → List Placed
front_tokens n r = take n (cut_in r)

-- the first so many tokens were passed
pub record IsFront (r : Reading) (s : Span) : Type 0 where
  pub within : s.tokens ≤ length (cut_in r)
  pub taken : HasTaken r (front_tokens s.tokens r) (reading s.place s.comment s.rest.now)
  pub room : HasRoom s.place (length s.rest.now)
  pub utf8 : IsUtf8 s.rest.now
  -- each token is a lexeme, and took a byte at least
  pub lexemes : are_lexemes (map word_of (front_tokens s.tokens r)) ≡ true
  pub count : s.tokens + length s.rest.now ≤ length (encode_utf8_all r.chars)

-- and they are a statement, or all that do not wait
pub record IsSpan (r : Reading) (s : Span) : Type 0 where
  pub front : IsFront r s
  pub ends : Ends s.ended (front_tokens s.tokens r) (reading s.place s.comment s.rest.now)

-- the fault is the first of the tokens that do not wait
abbrev pub Spans : Reading → Result Span Stop → Type 0
Spans r (Ok s) = IsSpan r s
Spans r (Err e) = Stops e (tokens_in r)

abbrev pub Passes : Reading → Result Span Stop → Type 0
Passes r (Ok s) = IsFront r s
Passes r (Err e) = Stops e (tokens_in r)
