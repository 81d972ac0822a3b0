-- Tables of masks.
use Rattle.std.specs.Prelude.{◌<◌, ◌≤◌, ◌^◌, ◌↔◌, ◌⊎◌, ◌≡◌, ℕ, List, [], ◌∷◌, ◌++◌, Bool, true, false, Option, Some}
use Rattle.std.specs.Prelude.{None, slice_get, slice_index}
use Rattle.heap_formula.specs.Words.{Each, OneOf}
use Rattle.model_check.specs.declared.ground.Piece.{Piece}
use Rattle.model_check.specs.declared.ground.Piece.TheVariants.{Here, Of}
use Rattle.model_check.specs.declared.ground.GroundRule.{GroundRule}
use Rattle.model_check.specs.WideMasks.{number, HoldsMask}
use Rattle.model_check.specs.Ground.{Apart, Unions, derived}

-- a question's masks, as words
abbrev pub Row : Type 0
Row = List (List ℕ)

-- the mask was added at the end, or stood there
abbrev pub Added : Row → Row → ℕ → Bool → Type 0
Added old new m true = (ws : List ℕ) × (number ws ≡ m) × (new ≡ old ++ ws ∷ [])
Added old new m false = (new ≡ old) × HoldsMask m old

-- the row has these masks more
abbrev pub Gains : Row → Row → (ℕ → Type 0) → Type 0
Gains old new P = (m : ℕ) → HoldsMask m new ↔ (HoldsMask m old ⊎ P m)

-- m is a disjoint union of this mask and one of the others
abbrev pub JoinsOne : ℕ → Row → ℕ → Type 0
JoinsOne part others m = OneOf (λ rest. Apart part (number rest) m) others

abbrev pub JoinsSome : Row → Row → ℕ → Type 0
JoinsSome parts others m = OneOf (λ part. JoinsOne (number part) others m) parts

abbrev pub HasIn : Option Row → ℕ → Type 0
HasIn None m = ⊥
HasIn (Some row) m = HoldsMask m row

-- the table has the mask at the question
abbrev pub HasMask : List Row → ℕ → ℕ → Type 0
HasMask table q m = HasIn (slice_get table q) m

abbrev pub JoinsIn : Option Row → Row → ℕ → Type 0
JoinsIn None others m = ⊥
JoinsIn (Some row) others m = JoinsSome row others m

-- m is a disjoint union of a mask of the piece and one of the others
abbrev pub JoinsPiece : List Row → Piece → Row → ℕ → Type 0
JoinsPiece table (Here k) others m = JoinsOne (2 ^ k) others m
JoinsPiece table (Of q) others m = JoinsIn (slice_get table q) others m

-- the table has one more mask, at the question head
abbrev pub AddsMask : ℕ → ℕ → List Row → List Row → Type 0
AddsMask head mask old new = (q m : ℕ) → HasMask new q m ↔ (HasMask old q m ⊎ ((q ≡ head) × (mask ≡ m)))

-- the table has these masks more, at the question head
abbrev pub AddsRule : ℕ → (ℕ → Type 0) → List Row → List Row → Type 0
AddsRule head P old new = (q m : ℕ) → HasMask new q m ↔ (HasMask old q m ⊎ ((q ≡ head) × P m))

-- the table has what the rule gives from it more
abbrev pub AppliesRule : GroundRule → List Row → List Row → Type 0
AppliesRule r old new = AddsRule r.head (Unions (HasMask old) r.pieces) old new

-- each mask of the table is derived
abbrev pub IsDerived : List GroundRule → List Row → Type 0
IsDerived rules table = (q m : ℕ) → HasMask table q m → derived rules q m

-- what the rule gives from the table is in it
abbrev pub IsClosed : List Row → GroundRule → Type 0
IsClosed table r = (m : ℕ) → Unions (HasMask table) r.pieces m → HasMask table r.head m

-- what the rules give from the table is in it
abbrev pub AreClosed : List Row → List GroundRule → Type 0
AreClosed table rules = Each (IsClosed table) rules

-- the heads are questions
abbrev pub HeadsFit : ℕ → List GroundRule → Type 0
HeadsFit count rules = Each (λ r. r.head < count) rules

-- the piece's question has grown no later than at this time
abbrev pub IsOld : List ℕ → ℕ → Piece → Type 0
IsOld grown time (Here k) = Unit {0}
IsOld grown time (Of q) = slice_index grown q ≤ time

-- a rule was applied at this time, and no question that it asks has grown since; time 0 is never
abbrev pub IsFresh : List ℕ → ℕ → List Piece → Type 0
IsFresh grown time pieces = (0 < time) × Each (IsOld grown time) pieces

-- a rule that is fresh gives nothing new
abbrev pub AreSettled : List Row → List ℕ → List ℕ → List GroundRule → Type 0
AreSettled table grown applied rules =
    (i : ℕ) (r : GroundRule) → slice_get rules i ≡ Some r → IsFresh grown (slice_index applied i) r.pieces
    → IsClosed table r

-- none of the times is later than this one
abbrev pub AreBefore : List ℕ → ℕ → Type 0
AreBefore times now = (i : ℕ) → slice_index times i ≤ now
