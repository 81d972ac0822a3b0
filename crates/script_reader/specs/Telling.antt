-- Which fault of a text is told.
use Rattle.std.specs.Prelude.{◌≡◌, ◌⊎◌, ℕ, ◌-◌, List, map, length, Contains, Option, Some, None, Result, Ok, Err}
use Rattle.std.specs.Prelude.{slice_get}
use Rattle.script_reader.specs.declared.trees.reading.TreeFault.{TreeFault}
use Rattle.script_reader.specs.declared.trees.reading.TreeFault.TheVariants as tree
use Rattle.script_reader.specs.declared.faults.ScriptFault.{ScriptFault}
use Rattle.script_reader.specs.declared.faults.ScriptFault.TheVariants.{Byte, Utf8, Syntax, IllFormed, Limit}
use Rattle.script_reader.specs.declared.faults.ScriptFault.TheVariants.{Unsupported, OutOfMemory}
use Rattle.script_reader.specs.declared.trees.kinds.NodeKind.{NodeKind}
use Rattle.script_reader.specs.declared.trees.kinds.NodeKind.TheVariants as node
use Rattle.script_reader.specs.declared.trees.trees.Node.{Node}
use Rattle.script_reader.specs.declared.trees.trees.Trees.{Trees}
use Rattle.script_reader.specs.Tokens.{Placed, tokens_of}
use Rattle.script_reader.specs.Faults.{first_unfit}

-- a fault of the trees of a script
abbrev pub told : TreeFault → ScriptFault
told (tree.Byte at) = Byte at
told (tree.Utf8 at) = Utf8 at
told (tree.Syntax at) = Syntax at
told tree.OutOfMemory = OutOfMemory

-- the first token that is out of place is told, if there is one; out of memory is free
abbrev pub TellsUnfit : Option ℕ → ScriptFault → Type 0
TellsUnfit (Some at) fault = (fault ≡ Syntax at) ⊎ (fault ≡ OutOfMemory)
TellsUnfit None fault = Unit {0}

-- the first bad byte is told, if there is one, and else the first token that is out of place
abbrev pub TellsText : {X : Type 0} → List ℕ → Option TreeFault → Result X ScriptFault → Type 0
TellsText bytes (Some fault) (Ok x) = ⊥
TellsText bytes (Some fault) (Err e) = e ≡ told fault
TellsText bytes None (Ok x) = first_unfit bytes ≡ None
TellsText bytes None (Err e) = TellsUnfit (first_unfit bytes) e

-- where a tree begins, and where its last token does; behind the last tree the end of the text
abbrev pub begin_of : ℕ → Option Node → ℕ
begin_of end None = end
begin_of end (Some n) = n.from

abbrev pub last_token : NodeKind → ℕ → ℕ → ℕ
last_token node.List from to = to - 1
last_token (node.Atom kind) from to = from

abbrev pub last_of : ℕ → Option Node → ℕ
last_of end None = end
last_of end (Some n) = last_token n.kind n.from n.to

-- the offset is that of the first token of a tree or of its last one, or the end of the text
unfoldable pub IsPlace : Trees → ℕ → Type 0
IsPlace trees at = (tree : ℕ) × ((at ≡ begin_of (length trees.bytes.now) (slice_get trees.nodes.items tree))
    ⊎ (at ≡ last_of (length trees.bytes.now) (slice_get trees.nodes.items tree)))

-- a fault of commands stands at such an offset
abbrev pub StandsIn : Trees → ScriptFault → Type 0
StandsIn trees (Byte at) = ⊥
StandsIn trees (Utf8 at) = ⊥
StandsIn trees (Syntax at) = IsPlace trees at
StandsIn trees (IllFormed what at) = IsPlace trees at
StandsIn trees (Limit what at) = IsPlace trees at
StandsIn trees (Unsupported what at) = IsPlace trees at
StandsIn trees OutOfMemory = Unit {0}

-- what is told stands in these trees
abbrev pub Tells : {X : Type 0} → Trees → Result X ScriptFault → Type 0
Tells trees (Ok x) = Unit {0}
Tells trees (Err fault) = StandsIn trees fault

-- whatever the trees are, what is told stands at this offset
abbrev pub TellsAt : {X : Type 0} → ℕ → Result X ScriptFault → Type 0
TellsAt at r = (trees : Trees) → IsPlace trees at → Tells trees r

-- what is told has no offset: memory runs out
abbrev pub TellsAnywhere : {X : Type 0} → Result X ScriptFault → Type 0
TellsAnywhere r = (trees : Trees) → Tells trees r

-- where tokens begin
abbrev pub offsets : List Placed → List ℕ
offsets ts = map (λ t. t.from) ts

-- the offset is that of a token of the text, or its end
abbrev pub IsTokenPlace : List ℕ → ℕ → Type 0
IsTokenPlace bytes at = (at ≡ length bytes) ⊎ Contains (offsets (tokens_of bytes)) at

-- a fault of the text stands at a token, but for bad bytes
abbrev pub StandsAtToken : List ℕ → ScriptFault → Type 0
StandsAtToken bytes (Byte at) = Unit {0}
StandsAtToken bytes (Utf8 at) = Unit {0}
StandsAtToken bytes (Syntax at) = IsTokenPlace bytes at
StandsAtToken bytes (IllFormed what at) = IsTokenPlace bytes at
StandsAtToken bytes (Limit what at) = IsTokenPlace bytes at
StandsAtToken bytes (Unsupported what at) = IsTokenPlace bytes at
StandsAtToken bytes OutOfMemory = Unit {0}

abbrev pub TellsToken : {X : Type 0} → List ℕ → Result X ScriptFault → Type 0
TellsToken bytes (Ok x) = Unit {0}
TellsToken bytes (Err fault) = StandsAtToken bytes fault
