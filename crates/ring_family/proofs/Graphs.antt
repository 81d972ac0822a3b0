-- The trace graph of the ring, node by node.
use Rattle.std.proofs.Common.{◌≡◌, ℕ, ◌+◌, ◌*◌, ◌<◌, ◌≤◌, List, [], ◌∷◌, length, map, arith, true, false, refl, ap}
use Rattle.std.proofs.lemmas.Bool.{eq-eqb}
use Rattle.heap_formula.specs.declared.terms.Term.TheVariants.{Nil, Univ, Exist}
use Rattle.heap_formula.specs.declared.proof_rules.Rule.{Rule}
use Rattle.heap_formula.specs.declared.proof_rules.Rule.TheVariants.{Rewrite, Unfold, Done, PureRight, Instantiate}
use Rattle.heap_formula.specs.declared.proof_rules.Rule.TheVariants.{Frame, UnfoldRight}
use Rattle.heap_formula.specs.declared.proof_rules.Side.TheVariants.{Left}
use Rattle.heap_formula.specs.Definitions.{Definition}
use Rattle.heap_formula.specs.Symbolic.{SymbolicHeap}
use Rattle.heap_syntax.specs.Versions.{limits}
use Rattle.heap_syntax.specs.declared.version.Version.TheVariants.{One}
use Rattle.rule_table.specs.Answer.{Answer}
use Rattle.rule_table.specs.RuleBook.{rule_answer}
use Rattle.logics.specs.Graphs.{rule_edges}
use Rattle.rule_book.specs.Graphs.{Node}
use Rattle.rule_book.specs.SeparationLogic.{traced_answer}
use Rattle.trace_pairs.specs.Graph.{Node as GraphNode, Edge as GraphEdge, Pair as TracePair}
use Rattle.proof_graph.specs.Traces.{predicate_places}
use Rattle.ring_family.specs.Ring.{emp, is_nil, holds, cell_then, after, ring_definitions, by_rule, ring_block}
use Rattle.ring_family.specs.Ring.{ring_bud, in_blocks, ring_nodes}
use Rattle.proof_check.specs.Files.{graph_node, graph_of}
use Rattle.ring_family.proofs.Answers.{entails, unfolds, rewrites, unfolds_nil, drops_pure, done', unfolds_cell}
use Rattle.ring_family.proofs.Answers.{instantiates, frames}
use Rattle.ring_family.proofs.Blocks.{blocks_map}
use Rattle.ring_family.proofs.Right.{cases_at, cases_last, node_at}

abbrev pub edge : ℕ → List TracePair → GraphEdge
edge target pairs = record { target = target; pairs = pairs }

abbrev pub graph_node_of : List ℕ → List GraphEdge → GraphNode
graph_node_of positions edges = record { positions = positions; edges = edges }

-- the graph's nodes 8 m to 8 m + 7
abbrev pub graph_block : ℕ → List GraphNode
graph_block m =
    graph_node_of (0 ∷ []) (edge (8 * m + 1) [] ∷ edge (8 * m + 5) ((0, 1, true) ∷ []) ∷ []) ∷
    graph_node_of [] (edge (8 * m + 2) [] ∷ []) ∷
    graph_node_of [] (edge (8 * m + 3) [] ∷ []) ∷
    graph_node_of [] (edge (8 * m + 4) [] ∷ []) ∷
    graph_node_of [] [] ∷
    graph_node_of (1 ∷ []) (edge (8 * m + 6) ((1, 1, false) ∷ []) ∷ []) ∷
    graph_node_of (1 ∷ []) (edge (8 * m + 7) ((1, 1, false) ∷ []) ∷ []) ∷
    graph_node_of (1 ∷ []) (edge (8 * m + 8) ((1, 0, false) ∷ []) ∷ []) ∷ []

pub graph_block_eight : (m : ℕ) → length (graph_block m) ≡ 8
graph_block_eight m = refl

-- its last node
abbrev pub graph_bud : GraphNode
graph_bud = graph_node_of (0 ∷ []) (edge 0 ((0, 0, false) ∷ []) ∷ [])

abbrev pub ring_graph : ℕ → List GraphNode
ring_graph k = in_blocks graph_block graph_bud 0 k

module _ (k : ℕ) (one : 1 ≤ k) (few : k ≤ 2000) where
  abbrev nodes : List Node
  nodes = ring_nodes k

  abbrev ds : List Definition
  ds = ring_definitions k

  -- a node by a rule with this answer
  answered : (a b : SymbolicHeap) (rule : Rule) (us : List ℕ) (answer : Answer)
      → rule_answer (limits One) ds [] (entails a b) rule ≡ answer →
      graph_node (limits One) ds [] nodes (by_rule a b rule us)
      ≡ graph_node_of (predicate_places 0 a.spatial) (rule_edges us (traced_answer answer))
  answered a b rule us answer e = ap (λ (t : Answer). graph_node_of (predicate_places 0 a.spatial)
      (rule_edges us (traced_answer t))) e

  block_graph : (m : ℕ) → m < k → map (graph_node (limits One) ds [] nodes) (ring_block k m) ≡ graph_block m
  block_graph m b =
      let q = cases_last k 0 k k refl in
      let small : m ≤ 2000 = omega arith in
      let cell = cell_then (Univ m) (Univ (m + 1)) (after k m) in
      let open' = cell_then (Univ m) (Exist 0) k in
      let shut = cell_then (Univ m) (Univ (m + 1)) k in
      let n0 = answered (holds m (Univ m)) (holds k (Univ m)) (Unfold 0) ((8 * m + 1) ∷ (8 * m + 5) ∷ []) _
      (unfolds k m ds small (cases_at k 0 k m m (omega arith) (omega arith))) in
      let n1 = answered (is_nil (Univ m)) (holds k (Univ m)) (Rewrite 0 Left) ((8 * m + 2) ∷ []) _
      (rewrites k m ds small) in
      let n2 = answered emp (holds k Nil) (UnfoldRight 0 0) ((8 * m + 3) ∷ []) _ (unfolds_nil k m ds small q) in
      let n3 = answered emp (is_nil Nil) (PureRight 0) ((8 * m + 4) ∷ []) _ (drops_pure k m ds small) in
      let n4 = answered emp emp Done [] _ (done' k m ds small) in
      let n5 = answered cell (holds k (Univ m)) (UnfoldRight 0 1) ((8 * m + 6) ∷ []) _ (unfolds_cell k m ds small q) in
      let n6 = answered cell open' (Instantiate 0 (Univ (m + 1))) ((8 * m + 7) ∷ []) _ (instantiates k m ds small) in
      let n7 = answered cell shut (Frame 0 0) ((8 * m + 8) ∷ []) _ (frames k m ds small) in
      λ i. n0 i ∷ n1 i ∷ n2 i ∷ n3 i ∷ n4 i ∷ n5 i ∷ n6 i ∷ n7 i ∷ []

  bud_graph : graph_node (limits One) ds [] nodes (ring_bud k) ≡ graph_bud
  bud_graph = rw (node_at k one few 0 0 0 _ (omega arith) refl refl) (rw (eq-eqb k k refl))

  pub ring_graph_is : graph_of (limits One) ds [] nodes ≡ ring_graph k
  ring_graph_is = blocks_map (graph_node (limits One) ds [] nodes) (ring_block k) (ring_bud k) graph_block graph_bud 0 k
      (λ m _ b. block_graph m (omega (arith, b))) bud_graph
