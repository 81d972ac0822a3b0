-- The bytes of trees.
use Rattle.std.specs.Prelude.{ℕ, ◌+◌, ◌-◌, List, [], Option, Some, None, slice_get, slice_range}
use Rattle.script_reader.specs.declared.trees.kinds.AtomKind.{AtomKind}
use Rattle.script_reader.specs.declared.trees.kinds.AtomKind.TheVariants.{Symbol, Quoted, Keyword, Text, Constant}
use Rattle.script_reader.specs.declared.trees.kinds.NodeKind.{NodeKind}
use Rattle.script_reader.specs.declared.trees.kinds.NodeKind.TheVariants as tree
use Rattle.script_reader.specs.declared.trees.trees.Node.{Node}

-- the bytes of an atom with these ends, without bars or quotation marks
abbrev pub atom_text : List ℕ → AtomKind → ℕ → ℕ → List ℕ
atom_text bytes Symbol from to = slice_range bytes from to
atom_text bytes Quoted from to = slice_range bytes (from + 1) (to - 1)
atom_text bytes Keyword from to = slice_range bytes from to
atom_text bytes Text from to = slice_range bytes (from + 1) (to - 1)
atom_text bytes Constant from to = slice_range bytes from to

abbrev pub node_text : List ℕ → NodeKind → ℕ → ℕ → List ℕ
node_text bytes tree.List from to = []
node_text bytes (tree.Atom kind) from to = atom_text bytes kind from to

-- the bytes of a tree of a list, if there is one; a list has none
abbrev pub text_in : List ℕ → Option Node → List ℕ
text_in bytes None = []
text_in bytes (Some n) = node_text bytes n.kind n.from n.to

-- the kind of a tree; a list where there is none
abbrev pub kind_in : Option Node → NodeKind
kind_in None = tree.List
kind_in (Some n) = n.kind

abbrev pub symbol_of : List ℕ → NodeKind → ℕ → ℕ → Option (List ℕ)
symbol_of bytes (tree.Atom Symbol) from to = Some (atom_text bytes Symbol from to)
symbol_of bytes (tree.Atom Quoted) from to = Some (atom_text bytes Quoted from to)
symbol_of bytes other from to = None

-- the name that a tree is, if it is a symbol
abbrev pub symbol_in : List ℕ → Option Node → Option (List ℕ)
symbol_in bytes None = None
symbol_in bytes (Some n) = symbol_of bytes n.kind n.from n.to

-- how many trees stand below one
abbrev pub below_in : Option Node → ℕ
below_in None = 0
below_in (Some n) = n.below

-- the place behind a tree and those below it
abbrev pub behind : List Node → ℕ → ℕ
behind nodes place = place + 1 + below_in (slice_get nodes place)
