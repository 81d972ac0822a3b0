-- Numbers without a word between them, in brackets, and as premises.
use Rattle.std.specs.Prelude.{ℕ, List, [], ◌∷◌, ◌⊎◌}
use Rattle.std.proofs.Common.{inl, inr}
use Rattle.cyc_grammar.specs.Syntax.{Syntax, one, seq, alt, many, shaped, after, before, is_one}
use Rattle.cyc_grammar.specs.Classes.{number}
use Rattle.heap_syntax.specs.Words.{to_word, semicolon, opening_bracket, closing_bracket}
use Rattle.heap_syntax.specs.Grammar.{Any}

unfoldable pub numbers : Syntax (List ℕ)
numbers = many (is_one number) (one number)

-- "[" { number } "]"
unfoldable pub bracketed : Syntax (List ℕ)
bracketed = after opening_bracket (before numbers closing_bracket)

unfoldable pub two_numbers : Syntax (ℕ × ℕ)
two_numbers = seq (one number) (one number)

-- ---- premises = [ "to" number { number } ] ";"

abbrev pub to_premises : (ℕ × List ℕ) ⊎ Unit {0} → List ℕ
to_premises (inl p) = p.0 ∷ p.1
to_premises (inr u) = []

abbrev pub from_premises : List ℕ → (ℕ × List ℕ) ⊎ Unit {0}
from_premises [] = inr tt
from_premises (n ∷ ns) = inl (n, ns)

unfoldable pub premises : Syntax (List ℕ)
premises = shaped {A = (ℕ × List ℕ) ⊎ Unit {0}} to_premises from_premises Any
    (alt (is_one to_word) (after to_word (seq (one number) (before numbers semicolon))) (one semicolon))
