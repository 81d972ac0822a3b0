-- What reading a text answers.
use Rattle.std.specs.Prelude.{◌≡◌, ℕ, List, length, map, Result, Ok, Err}
use Rattle.cyc_lex.specs.declared.fault.ReadFault.{ReadFault}
use Rattle.cyc_lex.specs.declared.fault.ReadFault.TheVariants as faults
use Rattle.cyc_lex.specs.Answer.{Answers}
use Rattle.cyc_lex.specs.Lexing.{tokens_of}
use Rattle.cyc_lex.specs.Placed.{Placed}
use Rattle.cyc_lex.specs.Word.{Word, word_of}
use Rattle.cyc_grammar.specs.declared.cursor.Refusal.{Refusal}
use Rattle.cyc_grammar.specs.declared.cursor.Refusal.TheVariants.{Dead, OutOfMemory}
use Rattle.cyc_grammar.specs.Giving.{IsTold, IsWithin}
use Rattle.cyc_grammar.specs.Syntax.{Reading, ◌>>=◌, all_taken}

-- all of the words
abbrev pub whole : {A : Type 0} → Reading A → Result A ℕ
whole r = r >>= λ x. all_taken x.0 x.1

-- out of memory, or a syntax fault, which stands at the dead token
abbrev pub IsFaultOf : List Placed → Refusal → ReadFault → Type 0
IsFaultOf ts OutOfMemory f = f ≡ faults.OutOfMemory
IsFaultOf ts (Dead left) (faults.Syntax token line column) = IsWithin (Dead left) (length ts)
    → IsTold ts (Dead left) (faults.Syntax token line column)
IsFaultOf ts (Dead left) _ = ⊥

module _ {X A : Type 0} (view : X → A) (read : List Word → Reading A) where
  -- the value that the tokens spell, or where the reading stops
  abbrev pub ReadsFrom : List Placed → Result X ReadFault → Type 0
  ReadsFrom ts (Ok x) = whole (read (map word_of ts)) ≡ Ok (view x)
  ReadsFrom ts (Err (faults.Syntax token line column)) = (left : ℕ) × (whole (read (map word_of ts)) ≡ Err left)
      × IsFaultOf ts (Dead left) (faults.Syntax token line column)
  ReadsFrom ts (Err faults.OutOfMemory) = Unit {0}
  ReadsFrom ts (Err _) = ⊥

  -- the bytes have these tokens
  abbrev pub Spells : List ℕ → Result X ReadFault → Type 0
  Spells bytes r = (ts : List Placed) × (tokens_of bytes ≡ Ok ts) × ReadsFrom ts r

  -- the value that the bytes spell, or the first fault of their tokens, or where the reading stops; out of memory is
  -- free
  abbrev pub Reads : List ℕ → Result X ReadFault → Type 0
  Reads bytes (Err (faults.Lex fault)) = Answers (Err fault) (tokens_of bytes)
  Reads bytes (Err faults.OutOfMemory) = Unit {0}
  Reads bytes r = Spells bytes r
