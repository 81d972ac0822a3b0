-- Tables of base pairs, and the number of a family's members.
use Rattle.std.specs.Prelude.{◌↔◌, ℕ, ◌≤◌, ◌<◌, List, [], ◌∷◌, length, slice_index_or}
use Rattle.heap_formula.specs.Definitions.{Definition}
use Rattle.heap_formula.specs.Words.{Each}
use Rattle.pair_family.specs.BasePairs.{BasePair}
use Rattle.pair_family.specs.Family.{PairFamily, InFamily}
use Rattle.cyc_basics.specs.Words.{IsMember}

-- no member stands twice
abbrev pub IsDistinct : {X : Type 0} → List X → Type 0
IsDistinct [] = Unit {0}
IsDistinct (x ∷ xs) = (¬ IsMember x xs) × IsDistinct xs

-- a list of base pairs for each predicate
abbrev pub Table : Type 0
Table = List (List BasePair)

abbrev pub pairs_of : Table → ℕ → List BasePair
pairs_of table p = slice_index_or table p []

abbrev pub in_table : Table → PairFamily
in_table table p b = IsMember b (pairs_of table p)

-- the table has exactly the family's members
abbrev pub IsTable : List Definition → Table → Type 0
IsTable ds table = (p : ℕ) (b : BasePair) → IsMember b (pairs_of table p) ↔ InFamily ds p b

-- predicates with members of theirs, none twice
pub record AreMembers (ds : List Definition) (list : List (ℕ × BasePair)) : Type 0 where
  pub distinct : IsDistinct list
  pub members : Each (λ m. InFamily ds m.0 m.1) list

-- the family has more than this many members, over all predicates
pub record HasMoreThan (ds : List Definition) (most : ℕ) : Type 0 where
  pub list : List (ℕ × BasePair)
  pub are : AreMembers ds list
  pub more : most < length list

abbrev pub HasAtMost : List Definition → ℕ → Type 0
HasAtMost ds most = (list : List (ℕ × BasePair)) → AreMembers ds list → length list ≤ most
