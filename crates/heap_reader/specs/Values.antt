-- What heaps as trees say: predicates by their numbers in place of their names.
use Rattle.std.specs.Prelude.{ℕ, suc, List, [], ◌∷◌, map, if◌then◌else◌}
use Rattle.std.specs.Str.{bytes_eq}
use Rattle.heap_formula.specs.declared.terms.Term.{Term}
use Rattle.heap_formula.specs.declared.atoms.Pure.{Pure}
use Rattle.heap_formula.specs.declared.atoms.Pure.TheVariants.{Eq, Neq}
use Rattle.heap_formula.specs.declared.atoms.Spatial.{Spatial as SpatialAtom}
use Rattle.heap_formula.specs.declared.atoms.Spatial.TheVariants as atoms
use Rattle.heap_formula.specs.declared.judgements.Judgement.{Judgement}
use Rattle.heap_formula.specs.declared.judgements.Judgement.TheVariants.{Entail}
use Rattle.heap_formula.specs.Definitions.{Definition}
use Rattle.heap_formula.specs.Symbolic.{SymbolicHeap}
use Rattle.heap_syntax.specs.declared.tree.PureTree.{PureTree}
use Rattle.heap_syntax.specs.Trees.{Spatial, Cell, Predicate, Heap}
use Rattle.heap_reader.specs.Trees.{Heading}

-- ---- heaps, over the value of a term

abbrev pub pure_value : {T : Type 0} → (T → Term) → PureTree T → Pure
pure_value value x = if x.is_equation then Eq (value x.left) (value x.right) else Neq (value x.left) (value x.right)

-- the number of the first predicate with the name; the number of predicates where there is none
abbrev pub place_of : List Heading → List ℕ → ℕ
place_of [] name = 0
place_of (h ∷ hs) name = if bytes_eq h.name name then 0 else suc (place_of hs name)

abbrev pub spatial_value : {T : Type 0} → (T → Term) → List Heading → Spatial T → SpatialAtom
spatial_value value hs (Cell t ts) = atoms.Cell (value t) (map value ts)
spatial_value value hs (Predicate name ts) = atoms.Pred (place_of hs name) (map value ts)

abbrev pub heap_value : {T : Type 0} → (T → Term) → List Heading → Heap T → SymbolicHeap
heap_value value hs h = record {
  pure = map (pure_value value) h.pure;
  spatial = map (spatial_value value hs) h.spatial;
}

-- the definition of a predicate, from its name, the number of its parameters and its cases
abbrev pub definition_value : {T : Type 0} → (T → Term) → List Heading → List ℕ → ℕ → List (Heap T) → Definition
definition_value value hs name arity cases = record
    { name = name; arity = arity; cases = map (heap_value value hs) cases }

abbrev pub entailment_value : {T : Type 0} → (T → Term) → List Heading → Heap T → List (Heap T) → Judgement
entailment_value value hs antecedent disjuncts = Entail (heap_value value hs antecedent)
    (map (heap_value value hs) disjuncts)
