-- The words of a regular expression, as lists of letters.
use Rattle.std.specs.Prelude.{ℕ, zero, suc, ◌≡◌, ◌⊎◌, List, [], ◌∷◌, ◌++◌}
use Rattle.word_inclusions.specs.Expressions.{Expression, Zero, One, Letter, Sum, Product, Star}

abbrev pub Word : Type 0
Word = List ℕ

-- a word of L, then a word of M
pub record IsJoined (L M : Word → Type 0) (w : Word) : Type 0 where
  pub front : Word
  pub back : Word
  pub is : w ≡ front ++ back
  pub first : L front
  pub second : M back

-- n words of L, one after the other
abbrev pub IsPower : (Word → Type 0) → ℕ → Word → Type 0
IsPower L zero w = w ≡ []
IsPower L (suc n) w = IsJoined L (IsPower L n) w

-- w is a word of the expression
abbrev pub IsWord : Expression → Word → Type 0
IsWord Zero w = ⊥
IsWord One w = w ≡ []
IsWord (Letter a) w = w ≡ a ∷ []
IsWord (Sum e f) w = IsWord e w ⊎ IsWord f w
IsWord (Product e f) w = IsJoined (IsWord e) (IsWord f) w
IsWord (Star e) w = (n : ℕ) × IsPower (IsWord e) n w

-- each word of e is a word of f
abbrev pub AreIncluded : Expression → Expression → Type 0
AreIncluded e f = (w : Word) → IsWord e w → IsWord f w
