-- What begins with a byte, and how many of the bytes after it belong to it.
use Rattle.std.specs.Prelude.{ℕ, suc, ◌+◌, Bool, true, false, not, ◌==◌, ◌||◌, ◌&&◌, nat_le, nat_lt, List, [], ◌∷◌}
use Rattle.std.specs.Prelude.{length, position, Option, Some, None, if◌then◌else◌}
use Rattle.script_reader.specs.declared.trees.kinds.AtomKind.{AtomKind}
use Rattle.script_reader.specs.declared.trees.kinds.AtomKind.TheVariants.{Symbol, Quoted, Keyword, Text, Constant}
use Rattle.script_reader.specs.declared.trees.kinds.TokenKind.TheVariants.{Open, Close, Atom}
use Rattle.script_reader.specs.declared.trees.kinds.Piece.{Piece}
use Rattle.script_reader.specs.declared.trees.kinds.Piece.TheVariants.{Gap, Token, Stray}
use Rattle.script_reader.specs.Bytes.{is_space, is_word_byte}

abbrev pub or_else : Option ℕ → ℕ → ℕ
or_else (Some n) m = n
or_else None m = m

-- how many bytes come before the first of this kind
abbrev pub len_before : ℕ → List ℕ → ℕ
len_before last bs = or_else (position (λ b. b == last) bs) (length bs)

-- how many bytes may stand in a symbol
abbrev pub word_len : List ℕ → ℕ
word_len bs = or_else (position (λ b. not (is_word_byte b)) bs) (length bs)

-- how many bytes a text takes behind its first quotation mark: up to one that no other follows, two standing for one;
-- where there is none, one more than there are. The last byte was a quotation mark that may be the last, or not.
unfoldable pub text_len : Bool → List ℕ → ℕ
text_len true [] = 0
text_len false [] = 1
text_len true (b ∷ bs) = if b == 34 then suc (text_len false bs) else 0
text_len false (b ∷ bs) = suc (text_len (b == 34) bs)

-- an atom that takes so many of the bytes, if so many are there
abbrev pub closed : AtomKind → List ℕ → ℕ → Piece × ℕ
closed kind bs n = if nat_lt (length bs) n then (Stray, 0) else (Token (Atom kind), n)

-- the longest piece is taken: a parenthesis; a comment, up to its line feed; a symbol between bars; a text; a keyword;
-- a constant; a space; a symbol
unfoldable pub piece_at : ℕ → List ℕ → Piece × ℕ
piece_at b bs =
    if b == 40 then (Token Open, 0)
    else (if b == 41 then (Token Close, 0)
    else (if b == 59 then (Gap, len_before 10 bs)
    else (if b == 124 then closed Quoted bs (len_before 124 bs + 1)
    else (if b == 34 then closed Text bs (text_len false bs)
    else (if b == 58 then closed Keyword bs (word_len bs)
    else (if (b == 35) || (nat_le 48 b && nat_le b 57) then closed Constant bs (word_len bs)
    else (if is_space b then (Gap, 0)
    else (if is_word_byte b then closed Symbol bs (word_len bs)
    else (Stray, 0)))))))))

-- what a text begins with
abbrev pub piece_of : List ℕ → Piece × ℕ
piece_of [] = (Gap, 0)
piece_of (b ∷ bs) = piece_at b bs
