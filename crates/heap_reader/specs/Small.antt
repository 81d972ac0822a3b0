-- Parts of trees that fit the values' types: numbers of 16 bits, lists within the limits; over the value of a term.
use Rattle.std.specs.Prelude.{◌<◌, ◌≤◌, List, length, Bool, ◌&&◌, nat_le}
use Rattle.cyc_basics.specs.declared.limits.Limits.{Limits}
use Rattle.cyc_basics.specs.declared.limits.TheConstants.{MOST_ARGUMENTS, MOST_PURE, MOST_SPATIAL}
use Rattle.heap_formula.specs.declared.terms.Term.{Term}
use Rattle.heap_formula.specs.declared.terms.Term.TheVariants.{Nil, Univ, Exist}
use Rattle.heap_formula.specs.Symbolic.{SymbolicHeap}
use Rattle.heap_formula.specs.Words.{Each}
use Rattle.heap_syntax.specs.declared.tree.PureTree.{PureTree}
use Rattle.heap_syntax.specs.Trees.{Spatial, Cell, Predicate, Heap}

abbrev pub IsSmallTerm : Term → Type 0
IsSmallTerm Nil = Unit {0}
IsSmallTerm (Univ n) = n < 65536
IsSmallTerm (Exist n) = n < 65536

module _ {T : Type 0} (value : T → Term) where
  abbrev pub IsSmall : T → Type 0
  IsSmall t = IsSmallTerm (value t)

  abbrev pub AreSmallTerms : List T → Type 0
  AreSmallTerms ts = Each IsSmall ts × (length ts ≤ MOST_ARGUMENTS)

  abbrev pub IsSmallPure : PureTree T → Type 0
  IsSmallPure x = IsSmall x.left × IsSmall x.right

  abbrev pub IsSmallSpatial : Spatial T → Type 0
  IsSmallSpatial (Cell t ts) = IsSmall t × AreSmallTerms ts
  IsSmallSpatial (Predicate name ts) = AreSmallTerms ts

  pub record IsSmallHeap (h : Heap T) : Type 0 where
    pub pure : Each IsSmallPure h.pure
    pub pure_few : length h.pure ≤ MOST_PURE
    pub spatial : Each IsSmallSpatial h.spatial
    pub spatial_few : length h.spatial ≤ MOST_SPATIAL

-- no more atoms than the version allows
abbrev pub is_short_heap : Limits → SymbolicHeap → Bool
is_short_heap most a = nat_le (length a.pure) most.pure && nat_le (length a.spatial) most.spatial
