-- How many tokens the parts of a text have, the one token after a part counted in.
use Rattle.std.specs.Prelude.{ℕ, ◌+◌, List, [], ◌∷◌, length}
use Rattle.heap_syntax.specs.declared.tree.PureTree.{PureTree}
use Rattle.heap_syntax.specs.Trees.{Spatial, Cell, Predicate, Heap}

-- the spans of the members together
abbrev pub total : {X : Type 0} → (X → ℕ) → List X → ℕ
total span [] = 0
total span (x ∷ xs) = span x + total span xs

-- the same, and so many tokens where there is no member
abbrev pub total_or : {X : Type 0} → ℕ → (X → ℕ) → List X → ℕ
total_or empty span [] = empty
total_or empty span (x ∷ xs) = total span (x ∷ xs)

-- ---- heaps, over the span of a term

-- the sign stands after the left side
abbrev pub pure_span : {T : Type 0} → (T → ℕ) → PureTree T → ℕ
pure_span span x = span x.left + span x.right

-- "true" where there is no pure atom
abbrev pub pures_span : {T : Type 0} → (T → ℕ) → List (PureTree T) → ℕ
pures_span span xs = total_or 2 (pure_span span) xs

-- the arrow stands after the address, then "(", and ")" after the last field
abbrev pub spatial_span : {T : Type 0} → (T → ℕ) → Spatial T → ℕ
spatial_span span (Cell t ts) = span t + 1 + total span ts + 1
spatial_span span (Predicate name ts) = 2 + total_or 1 span ts + 1

-- "emp" where there is no spatial atom
abbrev pub spatials_span : {T : Type 0} → (T → ℕ) → List (Spatial T) → ℕ
spatials_span span xs = total_or 2 (spatial_span span) xs

-- the colon stands after the pure atoms
abbrev pub heap_span : {T : Type 0} → (T → ℕ) → Heap T → ℕ
heap_span span h = pures_span span h.pure + spatials_span span h.spatial

-- ---- premises

-- what stands after the first word of "to", the premises and ";", or after ";" alone
abbrev pub premises_rest : List ℕ → ℕ
premises_rest [] = 0
premises_rest (n ∷ ns) = length (n ∷ ns) + 1
