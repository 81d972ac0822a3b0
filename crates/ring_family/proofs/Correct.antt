-- The family's theorem, for its lists and for a file that has them.
use Rattle.std.proofs.Common.{◌≡◌, ℕ, zero, suc, ◌+◌, ◌*◌, ◌≤◌, List, [], length, arith, sym, subst, refl}
use Rattle.std.proofs.lemmas.List.{length-map}
use Rattle.heap_formula.specs.declared.commands.Command.{Command}
use Rattle.heap_syntax.specs.Versions.{limits}
use Rattle.heap_syntax.specs.declared.version.Version.TheVariants.{One}
use Rattle.rule_book.specs.Graphs.{Node}
use Rattle.pred_defs.specs.Book.{DefinitionBook}
use Rattle.trace_pairs.specs.Lasso.{AllProgress}
use Rattle.buchi_inclusion.specs.Answers.{HasAtMost, HasMoreThan}
use Rattle.proof_check.specs.Files.{AreRight, graph_of}
use Rattle.ring_family.specs.Ring.{definitions_from, ring_definitions, ring_block, ring_bud, ring_nodes, file_node}
use Rattle.ring_family.specs.Ring.{file_nodes}
use Rattle.ring_family.proofs.Blocks.{blocks_long}
use Rattle.ring_family.proofs.Right.{all_right}
use Rattle.ring_family.proofs.Graphs.{ring_graph, ring_graph_is}
use Rattle.ring_family.proofs.Places.{on_ring, place_at, rank, all_good}
use Rattle.ring_family.proofs.Turning.{all_progress}
use Rattle.ring_family.proofs.States.{at_most, more_than}

definitions_size : (k i n : ℕ) → length (definitions_from k i n) ≡ n + 1
definitions_size k i zero = refl
definitions_size k i (suc n) = omega (arith, definitions_size k (suc i) n)

pub definitions_long : (k : ℕ) → length (ring_definitions k) ≡ k + 1
definitions_long k = definitions_size k 0 k

pub nodes_long : (k : ℕ) → length (file_nodes (ring_nodes k)) ≡ 8 * k + 1
nodes_long k = omega (
  arith,
  length-map (ring_nodes k) file_node,
  blocks_long (ring_block k) (ring_bud k) (λ j. refl) 0 k,
)

module _ (k : ℕ) (one : 1 ≤ k) (few : k ≤ 2000) where
  pub right : AreRight (limits One) (ring_definitions k) [] (ring_nodes k)
  right = all_right k one few

  pub paths : AllProgress (graph_of (limits One) (ring_definitions k) [] (ring_nodes k))
  paths = subst AllProgress (sym (ring_graph_is k one few))
      (all_progress (on_ring k) (place_at k) (rank k) (ring_graph k) (λ v i e h. (all_good k one v i e h).turns))

  pub states_at_most : HasAtMost (graph_of (limits One) (ring_definitions k) [] (ring_nodes k)) (8 * k + 1)
  states_at_most = subst (λ g. HasAtMost g (8 * k + 1)) (sym (ring_graph_is k one few)) (at_most k one)

  pub states_at_least : HasMoreThan (graph_of (limits One) (ring_definitions k) [] (ring_nodes k)) (8 * k)
  states_at_least = subst (λ g. HasMoreThan g (8 * k)) (sym (ring_graph_is k one few)) (more_than k one)

-- what holds of the family's lists holds of lists that are these
pub moved : (P : DefinitionBook → List Command → List Node → Type 0) (k : ℕ) (book : DefinitionBook)
    (program : List Command) (nodes : List Node) →
    book ≡ record { most = limits One; list = ring_definitions k } → program ≡ [] → nodes ≡ ring_nodes k
    → P (record { most = limits One; list = ring_definitions k }) [] (ring_nodes k) → P book program nodes
moved P k book program nodes d p n x =
    subst (λ (y : DefinitionBook). P y program nodes) (sym d)
    (subst (λ (y : List Command). P (record { most = limits One; list = ring_definitions k }) y nodes) (sym p)
    (subst (λ (y : List Node). P (record { most = limits One; list = ring_definitions k }) [] y) (sym n) x))
