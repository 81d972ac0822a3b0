-- The words of the first tokens of a text.
use Rattle.std.specs.Prelude.{◌≡◌, ℕ, ◌≤◌, Bool, true, List, ◌∷◌, length, take, map}
use Rattle.std.specs.Str.{chars}
use Rattle.cyc_lex.specs.declared.place.Place.{Place}
use Rattle.cyc_lex.specs.declared.token.Token.{Token}
use Rattle.cyc_lex.specs.Lexing.{HasRoom}
use Rattle.cyc_lex.specs.Cutting.{cut_tokens, cut_text}
use Rattle.cyc_lex.specs.Word.{Word, word, word_of}
use Rattle.cyc_grammar.specs.Classes.{are_tokens}

-- the words of the first n tokens of a text that stands at p, where a comment goes on or none does
abbrev pub text_words : Place → Bool → List ℕ → ℕ → List Word
text_words p comment text n = map word_of (take n (cut_text p comment text))

-- the token that is next, and the words of those that are cut off the rest, which stands at p
abbrev pub words_behind : Token → Place → List ℕ → List Word
words_behind next p rest = word next ∷ map word_of (cut_tokens p 0 (chars rest))

-- so many of them are left
abbrev pub words_left : ℕ → Token → Place → List ℕ → List Word
words_left left next p rest = take left (words_behind next p rest)

pub record AreLeft (left : ℕ) (next : Token) (p : Place) (rest : List ℕ) : Type 0 where
  pub within : left ≤ length (words_behind next p rest)
  pub tokens : are_tokens (words_left left next p rest) ≡ true
  pub room : HasRoom p (length rest)
