-- Trees of ends without where they lie in memory; T is the type of the terms.
use Rattle.std.specs.Prelude.{ℕ, List, map}
use Rattle.heap_syntax.specs.Trees.{Heap, heap_of}
use Rattle.heap_syntax.specs.declared.ends.tree.EndTree.{EndTree}

pub record End (T : Type 0) : Type 0 where
  pub number : ℕ
  pub disjuncts : List (Heap T)

-- what a contract sees of the code's tree, where it sees each term by seen
abbrev pub end_of : {T S : Type 0} → (T → S) → EndTree T → End S
end_of seen e = record { number = e.number; disjuncts = map (heap_of seen) e.disjuncts.items }
