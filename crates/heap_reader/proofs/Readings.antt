-- Bytes are read in one way.
use Rattle.std.proofs.Common.{◌≡◌, ℕ, ◌+◌, List, drop, Option, Some, None, Result, Ok, Err, refl, sym, ap, subst, ◌∙◌}
use Rattle.std.proofs.Common.{take-append-drop}
use Rattle.std.specs.Prelude.{map}
use Rattle.cyc_lex.specs.declared.fault.LexFault.{LexFault}
use Rattle.cyc_lex.specs.declared.fault.LexFault.TheVariants as lexical
use Rattle.cyc_lex.specs.declared.fault.ReadFault.{ReadFault}
use Rattle.cyc_lex.specs.declared.fault.ReadFault.TheVariants as faults
use Rattle.cyc_lex.specs.Lexing.{tokens_of}
use Rattle.cyc_lex.specs.Placed.{Placed}
use Rattle.cyc_lex.specs.Word.{word_of}
use Rattle.cyc_grammar.specs.Syntax.{read_whole}
use Rattle.cyc_grammar.specs.Faults.{IsSyntaxFault}
use Rattle.cyc_grammar.proofs.Laws.{Lawful, ok_is, whole_again}
use Rattle.heap_reader.specs.declared.flaw.Item.{Item}
use Rattle.heap_reader.specs.declared.flaw.Item.TheVariants.{Ill, Over}
use Rattle.heap_reader.specs.declared.flaw.Flaw.{Flaw}
use Rattle.heap_reader.specs.Reading.{Format, HasFlaw, IsLexFault, IsRead, IsReadAgain, Reads, Spells, SpellsTree}

none_some : (x : Flaw) (flaw : Option Flaw) → flaw ≡ None → flaw ≡ Some x → ⊥
none_some x None none some = cc
none_some x (Some y) none some = cc

some_item : (x y : Flaw) (flaw : Option Flaw) → flaw ≡ Some x → flaw ≡ Some y → x.item ≡ y.item
some_item x y flaw first second = let e : Some x ≡ Some y = sym first ∙ second in cc

-- bytes with a bad place have no tokens
pub no_tokens : (bytes : List ℕ) (fault : LexFault) (ts : List Placed) → IsLexFault bytes fault
    → tokens_of bytes ≡ Ok ts → ⊥
no_tokens bytes lexical.OutOfMemory ts bad good = bad
no_tokens bytes (lexical.BadByte o l c) ts bad good = cc
no_tokens bytes (lexical.BadUtf8 o l c) ts bad good = cc
no_tokens bytes (lexical.LongNumber o l c) ts bad good = cc
no_tokens bytes (lexical.LongName o l c) ts bad good = cc

-- the tokens of bytes are one list
pub ok_tokens : (ts us : List Placed) (bytes : List ℕ) → tokens_of bytes ≡ Ok ts → tokens_of bytes ≡ Ok us → us ≡ ts
ok_tokens ts us bytes first second = cc

module _ {T V : Type 0} (format : Format T V) (law : Lawful format.syntax) where
  -- tokens spell one tree
  pub same_tree : (ts : List Placed) (t u : T) → SpellsTree format ts t → SpellsTree format ts u → t ≡ u
  same_tree ts t u first second =
      ok_is t u (sym (whole_again format.syntax law t first.0) ∙ ap (read_whole format.syntax) (sym first.1 ∙ second.1)
      ∙ whole_again format.syntax law u second.0)

  -- tokens that spell a tree have no syntax fault
  pub no_syntax_fault : (ts : List Placed) (t : T) (token line column : ℕ) → SpellsTree format ts t
      → IsSyntaxFault format.syntax ts token line column → ⊥
  no_syntax_fault ts t token line column spelled fault =
      fault.first.dead (
        t,
        drop (token + 1) (map word_of ts),
        spelled.0,
        sym spelled.1
            ∙ sym (take-append-drop (token + 1) (map word_of ts)),
      )

  -- a tree that says a value has no flaw
  pub no_flaw : (ts : List Placed) (v : V) (item : Item) (token line column : ℕ) → Spells format ts v
      → HasFlaw format ts item token line column → ⊥
  no_flaw ts v item token line column spelled flaw =
      let same : format.flaw spelled.0 ≡ format.flaw flaw.0 = ap format.flaw
      (same_tree ts spelled.0 flaw.0 spelled.1 flaw.1) in
      none_some _ (format.flaw spelled.0) spelled.2 (same ∙ flaw.2)

  -- a tree has one flaw
  pub one_flaw : (ts : List Placed) (a b : Item) (token line column token' line' column' : ℕ)
      → HasFlaw format ts a token line column → HasFlaw format ts b token' line' column' → a ≡ b
  one_flaw ts a b token line column token' line' column' first second =
      let same : format.flaw first.0 ≡ format.flaw second.0 = ap format.flaw
      (same_tree ts first.0 second.0 first.1 second.1) in
      some_item _ _ (format.flaw second.0) (sym same ∙ first.2) second.2

  module _ (Same : V → V → Type 0) (says_one : (t : T) (v w : V) → format.Says t v → format.Says t w → Same v w) where
    -- a tree says one value
    pub one_value : (ts : List Placed) (v w : V) → Spells format ts v → Spells format ts w → Same v w
    one_value ts v w first second =
        says_one first.0 v w first.3 (subst (λ t. format.Says t w) (same_tree ts second.0 first.0 second.1 first.1)
        second.3)

    -- bytes that spell a value are read as that value
    pub again : (v : V) (bytes : List ℕ) (answer : Result V ReadFault) → IsRead format bytes (Ok v)
        → Reads format bytes answer → IsReadAgain Same v answer
    again v bytes (Ok w) first second =
        one_value first.0 v w first.2 (subst (λ ts. Spells format ts w)
        (ok_tokens first.0 second.0 bytes first.1 second.1) second.2)
    again v bytes (Err (faults.Lex fault)) first second = absurd (no_tokens bytes fault first.0 second first.1)
    again v bytes (Err (faults.Syntax k l c)) first second =
        absurd (no_syntax_fault first.0 first.2.0 k l c first.2.1
        (subst (λ ts. IsSyntaxFault format.syntax ts k l c) (ok_tokens first.0 second.0 bytes first.1 second.1)
        second.2))
    again v bytes (Err (faults.IllFormed a k l c)) first second =
        absurd (no_flaw first.0 v (Ill a) k l c first.2
        (subst (λ ts. HasFlaw format ts (Ill a) k l c) (ok_tokens first.0 second.0 bytes first.1 second.1)
        second.2))
    again v bytes (Err (faults.Limit a k l c)) first second =
        absurd (no_flaw first.0 v (Over a) k l c first.2
        (subst (λ ts. HasFlaw format ts (Over a) k l c) (ok_tokens first.0 second.0 bytes first.1 second.1)
        second.2))
    again v bytes (Err faults.OutOfMemory) first second = refl
