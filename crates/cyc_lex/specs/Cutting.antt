-- The tokens of a text, one after the other, where what is bad in it is passed over.
use Rattle.std.specs.Prelude.{◌≡◌, ℕ, zero, suc, Bool, List, [], ◌∷◌, length, take, Result, Ok, Err, ◌⊎◌}
use Rattle.std.specs.Str.{chars, encode_utf8_all, IsUtf8}
use Rattle.cyc_lex.specs.declared.token.Kind.TheVariants.{End}
use Rattle.cyc_lex.specs.declared.place.Place.{Place}
use Rattle.cyc_lex.specs.declared.place.Piece.{Piece}
use Rattle.cyc_lex.specs.declared.place.Piece.TheVariants as pieces
use Rattle.cyc_lex.specs.declared.place.Bad.{Bad}
use Rattle.cyc_lex.specs.declared.place.Stop.{Stop}
use Rattle.cyc_lex.specs.declared.cuts.Cut.{Cut}
use Rattle.cyc_lex.specs.Placed.{Placed, placed}
use Rattle.cyc_lex.specs.Lexing.{pass, piece_at, token_at, HasRoom, Stops, comment_len}

-- the tokens, where a piece with these bytes stands at p, and others are the tokens after it
abbrev pub with_piece : Piece → Place → List ℕ → List Placed → List Placed
with_piece pieces.Gap p bytes others = others
with_piece pieces.Stray p bytes others = others
with_piece (pieces.Token kind) p bytes others = token_at kind p bytes ∷ others

-- the tokens of the characters from p on, the first k of which belong to a piece that was taken; the end token last
unfoldable pub cut_tokens : Place → ℕ → List ℕ → List Placed
cut_tokens p k [] = token_at End p [] ∷ []
cut_tokens p (suc k) (c ∷ cs) = cut_tokens (pass p c) k cs
cut_tokens p zero (c ∷ cs) = with_piece (piece_at c cs).0 p (encode_utf8_all (c ∷ take (piece_at c cs).1 cs))
    (cut_tokens (pass p c) (piece_at c cs).1 cs)

-- the tokens of a text that stands at p, where a comment goes on or none does
abbrev pub cut_text : Place → Bool → List ℕ → List Placed
cut_text p comment text = cut_tokens p (comment_len comment (chars text)) (chars text)

-- the first of the tokens of a text is cut off; where it is the end token, no others are after it
pub record IsCut (p : Place) (text : List ℕ) (c : Cut) : Type 0 where
  pub others : List Placed
  pub tokens : cut_tokens p 0 (chars text) ≡ placed c.token ∷ others
  pub behind : (others ≡ cut_tokens c.place 0 (chars c.rest.now)) ⊎ (others ≡ [])
  pub room : HasRoom c.place (length c.rest.now)
  pub utf8 : IsUtf8 c.rest.now

-- the number of the tokens that a text has, or its fault
abbrev pub Counts : List Placed → Result ℕ Stop → Result (List Placed) (Bad × Place) → Type 0
Counts ts (Ok n) r = (r ≡ Ok ts) × (n ≡ length ts)
Counts ts (Err e) r = Stops e r
