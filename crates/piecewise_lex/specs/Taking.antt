-- Taking tokens off the front of a text, of which more may come.
use Rattle.std.specs.Prelude.{◌≡◌, ℕ, ◌<◌, Bool, true, false, ◌&&◌, ◌==◌, List, [], ◌∷◌, ◌++◌, length, slice_index}
use Rattle.std.specs.Prelude.{Option, Some, None, Result, Ok, Err}
use Rattle.std.specs.Str.{chars, encode_utf8_all, IsUtf8}
use Rattle.cyc_lex.specs.declared.place.Place.{Place}
use Rattle.cyc_lex.specs.declared.place.Bad.{Bad}
use Rattle.cyc_lex.specs.declared.place.Piece.{Piece}
use Rattle.cyc_lex.specs.declared.place.Stop.{Stop}
use Rattle.cyc_lex.specs.declared.token.Token.{Token}
use Rattle.cyc_lex.specs.Placed.{Placed, placed}
use Rattle.cyc_lex.specs.Word.{word, is_lexeme}
use Rattle.cyc_lex.specs.Lexing.{piece_at, pass_all, with_tokens, HasRoom, Stops, comment_len}
use Rattle.cyc_lex.specs.Cutting.{cut_tokens}
use Rattle.piecewise_lex.specs.declared.taking.Taken.{Taken}
use Rattle.piecewise_lex.specs.Owned.{IsShort}
use Rattle.piecewise_lex.specs.Feeding.{may_grow, taken_chars, held_chars, ends_in_comment, tokens_taken}

-- ---- a text of which tokens are taken

-- the place where it stands, whether a comment goes on there, and its characters
pub record Reading : Type 0 where
  pub place : Place
  pub comment : Bool
  pub chars : List ℕ

abbrev pub reading : Place → Bool → List ℕ → Reading
reading p comment text = record { place = p; comment = comment; chars = chars text }

-- how many of the characters go on the comment
abbrev pub skipped : Reading → ℕ
skipped r = comment_len r.comment r.chars

-- the tokens that do not wait, or the first bad place before those that do
abbrev pub tokens_in : Reading → Result (List Placed) (Bad × Place)
tokens_in r = tokens_taken r.place (skipped r) r.chars

-- the characters that wait, the place where they begin, and whether a comment goes on there
abbrev pub held_in : Reading → List ℕ
held_in r = held_chars (skipped r) r.chars

abbrev pub place_in : Reading → Place
place_in r = pass_all r.place (taken_chars (skipped r) r.chars)

abbrev pub comment_in : Reading → Bool
comment_in r = ends_in_comment r.comment (skipped r) r.chars

-- the tokens of all the characters, the end token last, where what is bad is passed over
abbrev pub cut_in : Reading → List Placed
cut_in r = cut_tokens r.place (skipped r) r.chars

-- the characters that are left are the last of all
abbrev pub IsTail : List ℕ → List ℕ → Type 0
IsTail left all = (front : List ℕ) × (all ≡ front ++ left)

-- these tokens come first, and all else is what the other text has, which is the end of this one
pub record HasTaken (old : Reading) (ts : List Placed) (new : Reading) : Type 0 where
  pub tokens : with_tokens ts (tokens_in new) ≡ tokens_in old
  pub held : held_in new ≡ held_in old
  pub place : place_in new ≡ place_in old
  pub comment : comment_in new ≡ comment_in old
  pub tail : IsTail new.chars old.chars

-- all of it waits
pub record Waits (r : Reading) : Type 0 where
  pub tokens : tokens_in r ≡ Ok []
  pub held : held_in r ≡ r.chars
  pub place : place_in r ≡ r.place
  pub comment : comment_in r ≡ r.comment

-- ---- one token

-- an ASCII character, which ends no line, is such a piece alone, whatever comes after it
pub record IsSingle (c : ℕ) (piece : Piece) : Type 0 where
  pub ascii : c < 128
  pub same_line : (c == 10) ≡ false
  pub alone : (cs : List ℕ) → piece_at c cs ≡ (piece, 0)

-- whether the piece with these bytes waits, where these are after it
abbrev pub stays : Piece → List ℕ → List ℕ → Bool
stays piece front after = (length after == 0) && may_grow piece (slice_index (chars front) 0)

abbrev pub listed : Option Token → List Placed
listed None = []
listed (Some t) = placed t ∷ []

-- a token of at most 64 bytes, a lexeme, was taken, so fewer characters and bytes are left; or all that is left waits
abbrev pub IsNearer : List ℕ → Taken → Option Token → Type 0
IsNearer text t None = Waits (reading t.place t.comment t.rest.now)
IsNearer text t (Some token) = IsShort token × (length (chars t.rest.now) < length (chars text)) × (t.comment ≡ false)
    × (is_lexeme (word token) ≡ true) × (length t.rest.now < length (encode_utf8_all (chars text)))

pub record IsTaken (p : Place) (comment : Bool) (text : List ℕ) (t : Taken) : Type 0 where
  pub taken : HasTaken (reading p comment text) (listed t.token) (reading t.place t.comment t.rest.now)
  pub room : HasRoom t.place (length t.rest.now)
  pub utf8 : IsUtf8 t.rest.now
  pub nearer : IsNearer text t t.token
  pub cut : cut_in (reading p comment text) ≡ listed t.token ++ cut_in (reading t.place t.comment t.rest.now)

-- the fault is the first of the tokens that do not wait
abbrev pub Takes : Place → Bool → List ℕ → Result Taken Stop → Type 0
Takes p comment text (Ok t) = IsTaken p comment text t
Takes p comment text (Err e) = Stops e (tokens_in (reading p comment text))
