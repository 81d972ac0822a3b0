-- Heaps, definitions and ends as trees: predicates by their names in place of their numbers.
use Rattle.std.specs.Prelude.{ℕ, Bool, true, false, List, [], map, Option, Some, None, slice_get}
use Rattle.heap_formula.specs.declared.terms.Term.{Term}
use Rattle.heap_formula.specs.declared.terms.Term.TheVariants as terms
use Rattle.heap_formula.specs.declared.atoms.Pure.{Pure}
use Rattle.heap_formula.specs.declared.atoms.Pure.TheVariants.{Eq, Neq}
use Rattle.heap_formula.specs.declared.atoms.Spatial.{Spatial as SpatialAtom}
use Rattle.heap_formula.specs.declared.atoms.Spatial.TheVariants as atoms
use Rattle.heap_formula.specs.declared.commands.Command.{Command}
use Rattle.heap_formula.specs.Definitions.{Definition as DefinitionValue}
use Rattle.heap_formula.specs.Symbolic.{SymbolicHeap}
use Rattle.heap_syntax.specs.declared.definitions.tree.TermTree.{TermTree}
use Rattle.heap_syntax.specs.declared.definitions.tree.TermTree.TheVariants.{Nil, Univ, Exist}
use Rattle.heap_syntax.specs.DefinitionGrammar as grammar
use Rattle.heap_syntax.specs.DefinitionTrees.{PureTree, Spatial, Cell, Predicate, Heap, Definition}
use Rattle.heap_syntax.specs.EndTrees.{End}
use Rattle.heap_reader.specs.EndValues.{LineEnd, ends_of}

abbrev pub term_tree : Term → TermTree
term_tree terms.Nil = Nil
term_tree (terms.Univ n) = Univ n
term_tree (terms.Exist n) = Exist n

-- the tree of the term has a text
abbrev pub TermFits : Bool → Term → Type 0
TermFits universal t = (grammar.terms universal).fits (term_tree t)

abbrev pub pure_tree : Pure → PureTree
pure_tree (Eq t u) = record { left = term_tree t; is_equation = true; right = term_tree u }
pure_tree (Neq t u) = record { left = term_tree t; is_equation = false; right = term_tree u }

abbrev pub name_in : Option DefinitionValue → List ℕ
name_in (Some d) = d.name
name_in None = []

-- the name of the predicate with this number, empty where there is none
abbrev pub name_of : List DefinitionValue → ℕ → List ℕ
name_of ds p = name_in (slice_get ds p)

abbrev pub spatial_tree : List DefinitionValue → SpatialAtom → Spatial
spatial_tree ds (atoms.Cell t ts) = Cell (term_tree t) (map term_tree ts)
spatial_tree ds (atoms.Pred p ts) = Predicate (name_of ds p) (map term_tree ts)

abbrev pub heap_tree : List DefinitionValue → SymbolicHeap → Heap
heap_tree ds h = record { pure = map pure_tree h.pure; spatial = map (spatial_tree ds) h.spatial }

abbrev pub definition_tree : List DefinitionValue → DefinitionValue → Definition
definition_tree ds d = record { name = d.name; arity = d.arity; cases = map (heap_tree ds) d.cases }

abbrev pub end_tree : List DefinitionValue → LineEnd → End TermTree
end_tree ds e = record { number = e.0; disjuncts = map (heap_tree ds) e.1 }

-- the ends of a program, in the order of their lines
abbrev pub ends_tree : List DefinitionValue → List Command → List (End TermTree)
ends_tree ds cs = map (end_tree ds) (ends_of cs)
