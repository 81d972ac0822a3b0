-- The tokens of a text, or the first byte that begins none.
use Rattle.std.specs.Prelude.{ℕ, zero, suc, ◌+◌, nat_lt, List, [], ◌∷◌, length, Option, Some, None, if◌then◌else◌}
use Rattle.std.specs.Str.Lossy.{utf8_valid_len}
use Rattle.script_reader.specs.declared.trees.kinds.TokenKind.{TokenKind}
use Rattle.script_reader.specs.declared.trees.kinds.Piece.{Piece}
use Rattle.script_reader.specs.declared.trees.kinds.Piece.TheVariants.{Gap, Token, Stray}
use Rattle.script_reader.specs.Pieces.{piece_at}

-- a token: what it is, the offset of its first byte, and that of the byte behind it
pub record Placed : Type 0 where
  pub kind : TokenKind
  pub from : ℕ
  pub to : ℕ

-- a piece at an offset, which takes so many bytes behind its first, and the tokens after it
abbrev pub with_piece : Piece → ℕ → ℕ → List Placed → List Placed
with_piece Gap at n others = others
with_piece Stray at n others = others
with_piece (Token kind) at n others = record { kind = kind; from = at; to = at + 1 + n } ∷ others

-- the tokens of the bytes from an offset on, the first k of which belong to a piece that was taken; strays are passed
-- over
unfoldable pub tokens_from : ℕ → ℕ → List ℕ → List Placed
tokens_from at k [] = []
tokens_from at (suc k) (b ∷ bs) = tokens_from (at + 1) k bs
tokens_from at zero (b ∷ bs) = with_piece (piece_at b bs).0 at (piece_at b bs).1
    (tokens_from (at + 1) (piece_at b bs).1 bs)

abbrev pub tokens_of : List ℕ → List Placed
tokens_of bytes = tokens_from 0 0 bytes

-- a piece at an offset begins no token, or else others do not
abbrev pub stray_or : Piece → ℕ → Option ℕ → Option ℕ
stray_or Stray at others = Some at
stray_or Gap at others = others
stray_or (Token kind) at others = others

-- the offset of the first byte that begins no token
unfoldable pub stray_from : ℕ → ℕ → List ℕ → Option ℕ
stray_from at k [] = None
stray_from at (suc k) (b ∷ bs) = stray_from (at + 1) k bs
stray_from at zero (b ∷ bs) = stray_or (piece_at b bs).0 at (stray_from (at + 1) (piece_at b bs).1 bs)

abbrev pub first_stray : List ℕ → Option ℕ
first_stray bytes = stray_from 0 0 bytes

-- the offset of the first byte that begins no whole character
abbrev pub first_broken : List ℕ → Option ℕ
first_broken bytes = if nat_lt (utf8_valid_len bytes) (length bytes) then Some (utf8_valid_len bytes) else None
