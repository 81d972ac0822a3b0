-- Rules on masks, and what they derive in rounds.
use Rattle.std.specs.Prelude.{◌≡◌, ℕ, zero, suc, ◌^◌, List, [], ◌∷◌}
use Rattle.std.specs.Int.Bits.{bit_and, bit_or}
use Rattle.heap_formula.specs.Words.{Each, OneOf}
use Rattle.model_check.specs.declared.ground.Piece.{Piece}
use Rattle.model_check.specs.declared.ground.Piece.TheVariants.{Here, Of}
use Rattle.model_check.specs.declared.ground.GroundRule.{GroundRule}

-- which masks each question has
abbrev pub Table : Type 1
Table = ℕ → ℕ → Type 0

abbrev pub PieceIs : Table → Piece → ℕ → Type 0
PieceIs T (Here k) f = f ≡ 2 ^ k
PieceIs T (Of q) f = T q f

-- two masks without a common bit, and their union
pub record Apart (f r m : ℕ) : Type 0 where
  pub apart : bit_and f r ≡ 0
  pub whole : m ≡ bit_or f r

-- m is a disjoint union of a mask that meets A and one that meets B
pub record Splits (A B : ℕ → Type 0) (m : ℕ) : Type 0 where
  pub part : ℕ
  pub rest : ℕ
  pub union : Apart part rest m
  pub first : A part
  pub others : B rest

-- m is a disjoint union of one mask for each piece
abbrev pub Unions : Table → List Piece → ℕ → Type 0
Unions T [] m = m ≡ 0
Unions T (x ∷ xs) m = Splits (PieceIs T x) (Unions T xs) m

-- the rule gives the question this mask
abbrev pub Gives : Table → ℕ → ℕ → GroundRule → Type 0
Gives T q m r = (r.head ≡ q) × Unions T r.pieces m

-- in round 0 nothing, in round n + 1 what the rules give from round n
abbrev pub round : List GroundRule → ℕ → Table
round rules zero q m = ⊥
round rules (suc n) q m = OneOf (Gives (round rules n) q m) rules

abbrev pub derived : List GroundRule → Table
derived rules q m = (n : ℕ) × round rules n q m

-- each mask of the table is derived, and each mask that the rules give from the table is in it
pub record IsSolved (rules : List GroundRule) (T : ℕ → ℕ → Type 0) : Type 0 where
  pub sound : (q m : ℕ) → T q m → derived rules q m
  pub closed : Each (λ r. (m : ℕ) → Unions T r.pieces m → T r.head m) rules
