-- The ring family: k list predicates in a ring, the plain list q, and a cyclic proof that the first entails q.
use Rattle.std.specs.Prelude.{ℕ, zero, suc, ◌+◌, ◌*◌, List, [], ◌∷◌, ◌++◌, map, nat_eq, if◌then◌else◌}
use Rattle.std.specs.Fmt.{decimal}
use Rattle.heap_formula.specs.declared.terms.Term.{Term}
use Rattle.heap_formula.specs.declared.terms.Term.TheVariants.{Nil, Univ, Exist}
use Rattle.heap_formula.specs.declared.atoms.Pure.TheVariants.{Eq}
use Rattle.heap_formula.specs.declared.atoms.Spatial.{Spatial}
use Rattle.heap_formula.specs.declared.atoms.Spatial.TheVariants.{Cell, Pred}
use Rattle.heap_formula.specs.declared.judgements.Judgement.TheVariants.{Entail}
use Rattle.heap_formula.specs.declared.proof_rules.Reason.TheVariants.{Step, Back}
use Rattle.heap_formula.specs.declared.proof_rules.Rule.{Rule}
use Rattle.heap_formula.specs.declared.proof_rules.Rule.TheVariants.{Rewrite, Unfold, Done, PureRight, Instantiate}
use Rattle.heap_formula.specs.declared.proof_rules.Rule.TheVariants.{Frame, UnfoldRight}
use Rattle.heap_formula.specs.declared.proof_rules.Side.TheVariants.{Left}
use Rattle.heap_formula.specs.Definitions.{Definition}
use Rattle.heap_formula.specs.Symbolic.{SymbolicHeap}
use Rattle.rule_book.specs.Graphs.{Node}
use Rattle.proof_file.specs.FileNodes.{FileNode}

-- ---- formulas

-- spatial atoms, and no pure ones
abbrev pub spatial_heap : List Spatial → SymbolicHeap
spatial_heap xs = record { pure = []; spatial = xs }

-- `true : emp`
abbrev pub emp : SymbolicHeap
emp = spatial_heap []

-- `t = nil : emp`
abbrev pub is_nil : Term → SymbolicHeap
is_nil t = record { pure = Eq t Nil ∷ []; spatial = [] }

-- `true : p(t)`
abbrev pub holds : ℕ → Term → SymbolicHeap
holds p t = spatial_heap (Pred p (t ∷ []) ∷ [])

-- `true : t -> (u) * p(u)`
abbrev pub cell_then : Term → Term → ℕ → SymbolicHeap
cell_then t u p = spatial_heap (Cell t (u ∷ []) ∷ Pred p (u ∷ []) ∷ [])

-- ---- definitions

-- the empty list at `nil`, or a cell that leads to a list of predicate p
abbrev pub list_of : List ℕ → ℕ → Definition
list_of name p = record { name = name; arity = 1; cases = is_nil (Univ 0) ∷ cell_then (Univ 0) (Exist 0) p ∷ [] }

-- the predicate after i in the ring of k
abbrev pub after : ℕ → ℕ → ℕ
after k i = if nat_eq (i + 1) k then 0 else i + 1

-- n predicates from number i on, named `p` with their numbers, then q
abbrev pub definitions_from : ℕ → ℕ → ℕ → List Definition
definitions_from k i zero = list_of (113 ∷ []) k ∷ []
definitions_from k i (suc n) = list_of (112 ∷ decimal i) (after k i) ∷ definitions_from k (suc i) n

-- p0 to p(k-1), each of which leads to the next, and q, which leads to itself
abbrev pub ring_definitions : ℕ → List Definition
ring_definitions k = definitions_from k 0 k

-- ---- nodes

-- a node by a rule
abbrev pub by_rule : SymbolicHeap → SymbolicHeap → Rule → List ℕ → Node
by_rule a b rule premises = record { judgement = Entail a (b ∷ []); reason = Step rule; premises = premises }

-- node 8 i, which unfolds predicate i at variable i
abbrev pub unfold_node : ℕ → ℕ → Node
unfold_node k i =
    by_rule (holds i (Univ i)) (holds k (Univ i)) (Unfold 0) ((8 * i + 1) ∷ (8 * i + 5) ∷ [])

-- node 8 i + 1, whose variable is `nil`
abbrev pub rewrite_node : ℕ → ℕ → Node
rewrite_node k i = by_rule (is_nil (Univ i)) (holds k (Univ i)) (Rewrite 0 Left) ((8 * i + 2) ∷ [])

-- nodes 8 i + 2 to 8 i + 4: the rest of the case of `nil`
abbrev pub nil_case : ℕ → ℕ → List Node
nil_case k i =
    by_rule emp (holds k Nil) (UnfoldRight 0 0) ((8 * i + 3) ∷ []) ∷
    by_rule emp (is_nil Nil) (PureRight 0) ((8 * i + 4) ∷ []) ∷
    by_rule emp emp Done [] ∷ []

-- a cell at variable i, and the next predicate of what it leads to
abbrev pub cell_side : ℕ → ℕ → SymbolicHeap
cell_side k i = cell_then (Univ i) (Univ (i + 1)) (after k i)

-- nodes 8 i + 5 to 8 i + 7: the case of a cell, which leads to node 8 i + 8
abbrev pub cell_case : ℕ → ℕ → List Node
cell_case k i =
    by_rule (cell_side k i) (holds k (Univ i)) (UnfoldRight 0 1) ((8 * i + 6) ∷ []) ∷
    by_rule (cell_side k i) (cell_then (Univ i) (Exist 0) k)
    (Instantiate 0 (Univ (i + 1))) ((8 * i + 7) ∷ []) ∷
    by_rule (cell_side k i) (cell_then (Univ i) (Univ (i + 1)) k)
    (Frame 0 0) ((8 * i + 8) ∷ []) ∷ []

-- nodes 8 i to 8 i + 7
abbrev pub ring_block : ℕ → ℕ → List Node
ring_block k i = unfold_node k i ∷ rewrite_node k i ∷ (nil_case k i ++ cell_case k i)

-- node 8 k, which is node 0 at variable k
abbrev pub ring_bud : ℕ → Node
ring_bud k =
    record {
      judgement = Entail (holds 0 (Univ k)) (holds k (Univ k) ∷ []);
      reason = Back (record { target = 0; subst = (0, Univ k) ∷ []; map = 0 ∷ []; disjuncts = 0 ∷ [] });
      premises = [];
    }

-- n blocks from number i on, then the last node
abbrev pub in_blocks : {X : Type 0} → (ℕ → List X) → X → ℕ → ℕ → List X
in_blocks block last i zero = last ∷ []
in_blocks block last i (suc n) = block i ++ in_blocks block last (suc i) n

-- the proof: k blocks and the bud
abbrev pub ring_nodes : ℕ → List Node
ring_nodes k = in_blocks (ring_block k) (ring_bud k) 0 k

-- ---- as a file has them

abbrev pub file_node : Node → FileNode
file_node x = record { judgement = x.judgement; reason = x.reason; premises = x.premises }

abbrev pub file_nodes : List Node → List FileNode
file_nodes xs = map file_node xs
