-- Masks of any width, as words of 64 bits.
use Rattle.std.specs.Prelude.{◌≡◌, ℕ, zero, suc, ◌+◌, ◌*◌, ◌^◌, ◌<◌, List, [], ◌∷◌, drop, slice_index}
use Rattle.std.specs.Int.Bits.{bit_and, bit_or}
use Rattle.heap_formula.specs.Words.{OneOf}

-- the number that the words spell, the lowest word first
abbrev pub number : List ℕ → ℕ
number [] = 0
number (w ∷ ws) = number ws * 2 ^ 64 + w

-- words of 64 bits, of which the last is not 0
abbrev pub IsNormal : List ℕ → Type 0
IsNormal [] = Unit {0}
IsNormal (w ∷ ws) = (w < 2 ^ 64) × (0 < number (w ∷ ws)) × IsNormal ws

-- no word has a bit in common with the word at its place in the other list
abbrev pub AreApart : List ℕ → List ℕ → Type 0
AreApart [] ys = Unit {0}
AreApart (x ∷ xs) ys = (bit_and x (slice_index ys 0) ≡ 0) × AreApart xs (drop 1 ys)

-- so many words, each the union of the two at its place
abbrev pub or_words : ℕ → List ℕ → List ℕ → List ℕ
or_words zero xs ys = []
or_words (suc k) xs ys = bit_or (slice_index xs 0) (slice_index ys 0) ∷ or_words k (drop 1 xs) (drop 1 ys)

-- one of the masks spells this number
abbrev pub HoldsMask : ℕ → List (List ℕ) → Type 0
HoldsMask m row = OneOf (λ ws. number ws ≡ m) row
