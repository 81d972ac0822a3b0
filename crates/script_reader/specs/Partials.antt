-- Trees of which the last lists are still open.
use Rattle.std.specs.Prelude.{◌≡◌, ℕ, ◌+◌, ◌-◌, List, [], ◌∷◌, ◌++◌, length}
use Rattle.script_reader.specs.declared.trees.kinds.TokenKind.TheVariants.{Open}
use Rattle.script_reader.specs.declared.trees.kinds.NodeKind.TheVariants as tree
use Rattle.script_reader.specs.declared.trees.trees.Node.{Node}
use Rattle.script_reader.specs.declared.trees.reading.OpenList.{OpenList}
use Rattle.script_reader.specs.Tokens.{Placed}
use Rattle.script_reader.specs.Forests.{Forest, nodes_in, tokens_in}

-- outermost trees; or, behind such trees, a list that is open, by the offset of its parenthesis and the one behind it,
-- with the trees in it so far
pub data Partial : Type 0 where
  outermost : Forest → Partial
  within : Partial → ℕ → ℕ → Forest → Partial

abbrev pub tokens_so_far : Partial → List Placed
tokens_so_far (outermost f) = tokens_in f
tokens_so_far (within p from behind f) = tokens_so_far p ++ record { kind = Open; from = from; to = behind }
    ∷ tokens_in f

-- the trees in one list, where an open list has nothing below it yet
abbrev pub nodes_so_far : Partial → List Node
nodes_so_far (outermost f) = nodes_in f
nodes_so_far (within p from behind f) = nodes_so_far p ++ record { kind = tree.List; from = from; to = from; below = 0 }
    ∷ nodes_in f

-- the open lists, the innermost last
abbrev pub open_lists : Partial → List OpenList
open_lists (outermost f) = []
open_lists (within p from behind f) = open_lists p ++ record { place = length (nodes_so_far p); from = from } ∷ []

-- an open list that has ended at an offset, when there were so many trees
abbrev pub ended : ℕ → OpenList → ℕ → Node
ended count opening last =
    record { kind = tree.List; from = opening.from; to = last + 1; below = count - opening.place - 1 }

-- these tokens spell trees, which lie in this list, and these of them are open
pub record IsPartial (nodes : List Node) (lists : List OpenList) (tokens : List Placed) : Type 0 where
  pub trees : Partial
  pub is_nodes : nodes ≡ nodes_so_far trees
  pub is_open : lists ≡ open_lists trees
  pub is_tokens : tokens ≡ tokens_so_far trees

-- a token adds to what is built
abbrev pub Adds : List Node → List OpenList → Placed → List Node → List OpenList → Type 0
Adds nodes lists token nodes' lists' = (tokens : List Placed) → IsPartial nodes lists tokens
    → IsPartial nodes' lists' (tokens ++ token ∷ [])
