-- What reading a text answers, for any format whose trees say values.
use Rattle.std.specs.Prelude.{◌≡◌, ℕ, List, map, Option, Result, Ok, Err, Some, None}
use Rattle.cyc_lex.specs.declared.fault.ReadFault.{ReadFault}
use Rattle.cyc_lex.specs.declared.fault.ReadFault.TheVariants as faults
use Rattle.cyc_lex.specs.declared.fault.LexFault.{LexFault}
use Rattle.cyc_lex.specs.declared.fault.LexFault.TheVariants as lexical
use Rattle.cyc_lex.specs.Answer.{Answers}
use Rattle.cyc_lex.specs.Lexing.{tokens_of}
use Rattle.cyc_lex.specs.Placed.{Placed}
use Rattle.cyc_lex.specs.Word.{word_of}
use Rattle.cyc_grammar.specs.Syntax.{Syntax}
use Rattle.cyc_grammar.specs.Faults.{IsSyntaxFault, StandsAt}
use Rattle.heap_reader.specs.declared.flaw.Item.{Item}
use Rattle.heap_reader.specs.declared.flaw.Item.TheVariants.{Ill, Over}
use Rattle.heap_reader.specs.declared.flaw.Flaw.{Flaw}

-- a format: the grammar of its trees, the first flaw of a tree, and what a tree says
pub record Format (T V : Type 0) : Type 1 where
  pub syntax : Syntax T
  pub flaw : T → Option Flaw
  pub Says : T → V → Type 0

-- the bytes have no tokens, for this reason
abbrev pub IsLexFault : List ℕ → LexFault → Type 0
IsLexFault bytes lexical.OutOfMemory = ⊥
IsLexFault bytes (lexical.BadByte offset line column) = Answers (Err (lexical.BadByte offset line column))
    (tokens_of bytes)
IsLexFault bytes (lexical.BadUtf8 offset line column) = Answers (Err (lexical.BadUtf8 offset line column))
    (tokens_of bytes)
IsLexFault bytes (lexical.LongNumber offset line column) = Answers (Err (lexical.LongNumber offset line column))
    (tokens_of bytes)
IsLexFault bytes (lexical.LongName offset line column) = Answers (Err (lexical.LongName offset line column))
    (tokens_of bytes)

-- the value is read, unless memory runs out
abbrev pub IsReadAgain : {V : Type 0} → (V → V → Type 0) → V → Result V ReadFault → Type 0
IsReadAgain same v (Ok w) = same v w
IsReadAgain same v (Err fault) = fault ≡ faults.OutOfMemory

module _ {T V : Type 0} (format : Format T V) where
  -- the tokens spell this tree
  abbrev pub SpellsTree : List Placed → T → Type 0
  SpellsTree ts tree = format.syntax.fits tree × (map word_of ts ≡ format.syntax.words tree)

  -- the tokens spell a tree without a flaw, and this is what it says
  abbrev pub Spells : List Placed → V → Type 0
  Spells ts v = (tree : T) × SpellsTree ts tree × (format.flaw tree ≡ None) × format.Says tree v

  -- the tokens spell a tree whose first flaw is this item, at the token of this number, line and column
  abbrev pub HasFlaw : List Placed → Item → ℕ → ℕ → ℕ → Type 0
  HasFlaw ts item token line column =
      (tree : T) × SpellsTree ts tree × (format.flaw tree ≡ Some (record { item = item; token = token }))
      × StandsAt ts token line column

  -- what is read of the tokens
  abbrev pub IsReadFrom : List Placed → Result V ReadFault → Type 0
  IsReadFrom ts (Ok v) = Spells ts v
  IsReadFrom ts (Err (faults.Syntax token line column)) = IsSyntaxFault format.syntax ts token line column
  IsReadFrom ts (Err (faults.IllFormed fault token line column)) = HasFlaw ts (Ill fault) token line column
  IsReadFrom ts (Err (faults.Limit what token line column)) = HasFlaw ts (Over what) token line column
  IsReadFrom ts (Err (faults.Lex fault)) = ⊥
  IsReadFrom ts (Err faults.OutOfMemory) = ⊥

  -- the bytes spell this value, or this is the first fault of the text: of its tokens, of its grammar, or of what it
  -- says
  abbrev pub IsRead : List ℕ → Result V ReadFault → Type 0
  IsRead bytes (Err (faults.Lex fault)) = IsLexFault bytes fault
  IsRead bytes (Ok v) = (ts : List Placed) × (tokens_of bytes ≡ Ok ts) × IsReadFrom ts (Ok v)
  IsRead bytes (Err (faults.Syntax token line column)) = (ts : List Placed) × (tokens_of bytes ≡ Ok ts)
      × IsReadFrom ts (Err (faults.Syntax token line column))
  IsRead bytes (Err (faults.IllFormed fault token line column)) =
      (ts : List Placed) × (tokens_of bytes ≡ Ok ts) × IsReadFrom ts (Err (faults.IllFormed fault token line column))
  IsRead bytes (Err (faults.Limit what token line column)) =
      (ts : List Placed) × (tokens_of bytes ≡ Ok ts) × IsReadFrom ts (Err (faults.Limit what token line column))
  IsRead bytes (Err faults.OutOfMemory) = ⊥

  -- the same, out of memory being free
  abbrev pub Reads : List ℕ → Result V ReadFault → Type 0
  Reads bytes (Err faults.OutOfMemory) = Unit {0}
  Reads bytes (Ok v) = IsRead bytes (Ok v)
  Reads bytes (Err (faults.Lex fault)) = IsRead bytes (Err (faults.Lex fault))
  Reads bytes (Err (faults.Syntax token line column)) = IsRead bytes (Err (faults.Syntax token line column))
  Reads bytes (Err (faults.IllFormed fault token line column)) = IsRead bytes
      (Err (faults.IllFormed fault token line column))
  Reads bytes (Err (faults.Limit what token line column)) = IsRead bytes (Err (faults.Limit what token line column))

  abbrev pub ReadsFrom : List Placed → Result V ReadFault → Type 0
  ReadsFrom ts (Err faults.OutOfMemory) = Unit {0}
  ReadsFrom ts (Ok v) = IsReadFrom ts (Ok v)
  ReadsFrom ts (Err (faults.Lex fault)) = ⊥
  ReadsFrom ts (Err (faults.Syntax token line column)) = IsReadFrom ts (Err (faults.Syntax token line column))
  ReadsFrom ts (Err (faults.IllFormed fault token line column)) = IsReadFrom ts
      (Err (faults.IllFormed fault token line column))
  ReadsFrom ts (Err (faults.Limit what token line column)) = IsReadFrom ts (Err (faults.Limit what token line column))
