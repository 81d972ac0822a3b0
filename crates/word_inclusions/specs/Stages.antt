-- When an inclusion holds at stages: a number for each place of its left side, how many turns the star there makes.
use Rattle.std.specs.Prelude.{ℕ, suc}
use Rattle.word_inclusions.specs.Expressions.{Expression, Product, Star, Sides}
use Rattle.word_inclusions.specs.Language.{Word, IsWord, IsJoined, IsPower, AreIncluded}

-- a word of the factor, of n turns if it is a star
abbrev pub IsFactorAt : Expression → ℕ → Word → Type 0
IsFactorAt (Star e) n w = IsPower (IsWord e) n w
IsFactorAt e n w = IsWord e w

-- a word of the factors, each at its stage
abbrev pub IsWordAt : Expression → (ℕ → ℕ) → Word → Type 0
IsWordAt (Product e f) σ w = IsJoined (IsFactorAt e (σ 0)) (IsWordAt f (λ i. σ (suc i))) w
IsWordAt e σ w = IsFactorAt e (σ 0) w

-- each word of the left side at its stages is a word of the right side
abbrev pub HoldsAt : (ℕ → ℕ) → Sides → Type 0
HoldsAt σ s = (w : Word) → IsWordAt s.left σ w → IsWord s.right w

-- each word of the left side is a word of the right side
abbrev pub IsInclusion : Sides → Type 0
IsInclusion s = AreIncluded s.left s.right
