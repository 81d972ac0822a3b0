-- The trees of a text, and how tokens spell them.
use Rattle.std.specs.Prelude.{◌≡◌, ℕ, ◌+◌, List, [], ◌∷◌, ◌++◌, length}
use Rattle.script_reader.specs.declared.trees.kinds.AtomKind.{AtomKind}
use Rattle.script_reader.specs.declared.trees.kinds.TokenKind.TheVariants.{Open, Close, Atom}
use Rattle.script_reader.specs.declared.trees.kinds.NodeKind.TheVariants as tree
use Rattle.script_reader.specs.declared.trees.trees.Node.{Node}
use Rattle.script_reader.specs.Tokens.{Placed, tokens_of}

-- trees beside each other: none; an atom, by its kind, the offset of its first byte and the one behind its last, and
-- those behind it; or a list, by these offsets of its first parenthesis, the trees in it, the offsets of its last
-- parenthesis, and those behind it
pub data Forest : Type 0 where
  none : Forest
  atom : AtomKind → ℕ → ℕ → Forest → Forest
  list : ℕ → ℕ → Forest → ℕ → ℕ → Forest → Forest

-- the tokens that spell trees
abbrev pub tokens_in : Forest → List Placed
tokens_in none = []
tokens_in (atom kind from to rest) = record { kind = Atom kind; from = from; to = to } ∷ tokens_in rest
tokens_in (list from behind inner last to rest) = record { kind = Open; from = from; to = behind }
    ∷ (tokens_in inner ++ record { kind = Close; from = last; to = to } ∷ tokens_in rest)

-- trees in one list, each before those below it
abbrev pub nodes_in : Forest → List Node
nodes_in none = []
nodes_in (atom kind from to rest) = record { kind = tree.Atom kind; from = from; to = to; below = 0 } ∷ nodes_in rest
nodes_in (list from behind inner last to rest) =
    record { kind = tree.List; from = from; to = last + 1; below = length (nodes_in inner) }
    ∷ (nodes_in inner ++ nodes_in rest)

-- the tokens of a text spell the trees of this list
pub record IsSpelled (bytes : List ℕ) (nodes : List Node) : Type 0 where
  pub forest : Forest
  pub is_tokens : tokens_in forest ≡ tokens_of bytes
  pub is_nodes : nodes ≡ nodes_in forest
