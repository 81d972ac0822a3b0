-- What is read of one part of a text, as far as the definitions so far tell.
use Rattle.std.specs.Prelude.{◌≡◌, ℕ, ◌+◌, ◌≤◌, ◌-◌, Bool, true, false, List, [], ◌∷◌, ◌++◌, length, map, drop, Some}
use Rattle.std.specs.Prelude.{None, Result, Ok, Err}
use Rattle.heap_formula.specs.Definitions.{Definition as DefinitionValue}
use Rattle.heap_formula.specs.Symbolic.{SymbolicHeap}
use Rattle.cyc_lex.specs.declared.fault.IllFault.{IllFault}
use Rattle.cyc_lex.specs.declared.fault.IllFault.TheVariants.{Unknown}
use Rattle.cyc_lex.specs.declared.fault.ReadFault.{ReadFault}
use Rattle.cyc_lex.specs.declared.fault.ReadFault.TheVariants as faults
use Rattle.cyc_lex.specs.Placed.{Placed}
use Rattle.cyc_lex.specs.Word.{word_of}
use Rattle.cyc_grammar.specs.Syntax.{Syntax}
use Rattle.cyc_grammar.specs.Faults.{IsFirstDead, StandsAt}
use Rattle.heap_reader.specs.declared.flaw.Item.{Item as FlawItem}
use Rattle.heap_reader.specs.declared.flaw.Item.TheVariants.{Ill, Over}
use Rattle.heap_reader.specs.Trees.{Heading, defined_headings}
use Rattle.heap_reader.specs.Flaws.{Found, heap_flaw}
use Rattle.heap_reader.specs.Values.{heap_value}
use Rattle.pred_defs.specs.Book.{DefinitionBook}
use Rattle.heap_syntax.specs.DefinitionTrees.{Heap, Definition, heap_of, definition_of}
use Rattle.heap_reader.specs.declared.definitions.scope.Scope.TheVariants.{Outside}
use Rattle.heap_reader.specs.DefinitionSpans.{term_span}
use Rattle.heap_reader.specs.DefinitionFlaws.{heading, term_flaw, definition_flaw}
use Rattle.heap_reader.specs.DefinitionValues.{term_value, definition_value}
use Rattle.heap_reader.specs.declared.items.items.Item.{Item}
use Rattle.heap_reader.specs.declared.items.items.Item.TheVariants.{Value, Flawed, Open}
use Rattle.heap_syntax.specs.declared.tree.HeapTree.{HeapTree}
use Rattle.heap_syntax.specs.declared.definitions.tree.TermTree.{TermTree}
use Rattle.heap_syntax.specs.declared.definitions.tree.DefinitionTree.{DefinitionTree}

-- no definition so far has the name
abbrev pub is_unknown_fault : IllFault → Bool
is_unknown_fault Unknown = true
is_unknown_fault _ = false

abbrev pub is_unknown : FlawItem → Bool
is_unknown (Ill fault) = is_unknown_fault fault
is_unknown (Over what) = false

-- flaw more: the first flaw of the part where these definitions follow; says: what the part says; tree: its tree, which
-- is seen of one in memory
abbrev pub IsItem : {V X T : Type 0} → (List Heading → Found) → (V → Type 0) → (X → T) → T → Item V X → Type 0
IsItem flaw says seen tree (Value v) = ((more : List Heading) → flaw more ≡ None) × says v
IsItem flaw says seen tree (Flawed f) = (more : List Heading) → flaw more ≡ Some f
IsItem flaw says seen tree (Open x f) = (flaw [] ≡ Some f) × (is_unknown f.item ≡ true) × (seen x ≡ tree)

-- the tokens from one place to another spell this tree
abbrev pub SpellsPart : {T : Type 0} → Syntax T → List Placed → ℕ → ℕ → T → Type 0
SpellsPart s ts place behind tree =
    s.fits tree × (drop place (map word_of ts) ≡ s.words tree ++ drop behind (map word_of ts))
    × (behind ≡ place + length (s.words tree))

-- the part that begins at a place is spelled so; or this token is the first with which no text of it goes on
abbrev pub IsReadPart : {T Y : Type 0} → Syntax T → (T → Y → Type 0) → List Placed → ℕ → Result (ℕ × Y) ReadFault
    → Type 0
IsReadPart {T = T} s is ts place (Ok r) = (tree : T) × SpellsPart s ts place r.0 tree × is tree r.1
IsReadPart s is ts place (Err (faults.Syntax token line column)) =
    (place ≤ token) × IsFirstDead s (drop place (map word_of ts)) (token - place) × StandsAt ts token line column
IsReadPart s is ts place (Err faults.OutOfMemory) = Unit {0}
IsReadPart s is ts place (Err (faults.Lex fault)) = ⊥
IsReadPart s is ts place (Err (faults.IllFormed fault token line column)) = ⊥
IsReadPart s is ts place (Err (faults.Limit what token line column)) = ⊥

-- ---- heaps, and the definition after those so far

abbrev pub heap_found : DefinitionBook → ℕ → Heap → List Heading → Found
heap_found book place tree more = heap_flaw (term_flaw Outside) term_span book.most (defined_headings book.list ++ more)
    place tree

abbrev pub says_heap : DefinitionBook → Heap → SymbolicHeap → Type 0
says_heap book tree v = v ≡ heap_value term_value (defined_headings book.list) tree

-- the definition is one of those that it uses
abbrev pub definition_found : DefinitionBook → ℕ → Definition → List Heading → Found
definition_found book place tree more =
    definition_flaw book.most (defined_headings book.list ++ heading tree ∷ more) (length book.list) place tree

abbrev pub says_definition : DefinitionBook → Definition → DefinitionValue → Type 0
says_definition book tree v = v ≡ definition_value (defined_headings book.list ++ heading tree ∷ []) tree

-- what is read of the heap that begins at a token, where these definitions came before
abbrev pub IsHeapItem : DefinitionBook → ℕ → Heap → Item SymbolicHeap (HeapTree TermTree) → Type 0
IsHeapItem book place tree item =
    IsItem (heap_found book place tree) (says_heap book tree) heap_of tree item

-- the same of a definition
abbrev pub IsDefinitionItem :
    DefinitionBook → ℕ → Definition → Item DefinitionValue DefinitionTree → Type 0
IsDefinitionItem book place tree item =
    IsItem (definition_found book place tree) (says_definition book tree) definition_of tree item
