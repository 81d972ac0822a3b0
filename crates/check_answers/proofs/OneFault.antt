-- A text has one fault, and a fault is answered in one way.
use Rattle.std.proofs.Common.{◌≡◌, ℕ, List, map, Result, Ok, Err, sym, ap, subst, ◌∙◌}
use Rattle.std.specs.Prelude.{slice_get}
use Rattle.cyc_lex.specs.declared.fault.LexFault.{LexFault}
use Rattle.cyc_lex.specs.declared.fault.LexFault.TheVariants as lexical
use Rattle.cyc_lex.specs.declared.fault.ReadFault.{ReadFault}
use Rattle.cyc_lex.specs.declared.fault.ReadFault.TheVariants as faults
use Rattle.cyc_lex.specs.declared.place.Place.{Place}
use Rattle.cyc_lex.specs.declared.place.Bad.{Bad}
use Rattle.cyc_lex.specs.Answer.{fault_of}
use Rattle.cyc_lex.specs.Lexing.{tokens_of}
use Rattle.cyc_lex.specs.Placed.{Placed}
use Rattle.cyc_lex.specs.Word.{word_of}
use Rattle.cyc_grammar.specs.Syntax.{Syntax}
use Rattle.cyc_grammar.specs.Faults.{IsSyntaxFault, StandsAt}
use Rattle.cyc_grammar.proofs.Laws.{Lawful}
use Rattle.cyc_grammar.proofs.FirstDead.{one_dead}
use Rattle.heap_reader.specs.declared.flaw.Flaw.{Flaw}
use Rattle.heap_reader.specs.declared.flaw.Item.{Item}
use Rattle.heap_reader.specs.declared.flaw.Item.TheVariants.{Ill, Over}
use Rattle.heap_reader.specs.Reading.{Format, HasFlaw, IsLexFault}
use Rattle.heap_reader.proofs.Readings.{same_tree}
use Rattle.check_answers.proofs.OneCheck.{one_some}
use Rattle.cyc_runs.specs.declared.endings.Status.{Status}
use Rattle.cyc_runs.specs.Faults.{IsFaultAnswer, fault_status, fault_text}

-- ---- tokens

-- what is bad, as the lexer tells it
abbrev told_bad : Result (List Placed) (Bad × Place) → LexFault
told_bad (Ok ts) = lexical.OutOfMemory
told_bad (Err bad) = fault_of bad.0 bad.1

is_told : (bytes : List ℕ) (fault : LexFault) → IsLexFault bytes fault → told_bad (tokens_of bytes) ≡ fault
is_told bytes lexical.OutOfMemory is = absurd is
is_told bytes (lexical.BadByte o l c) is = ap told_bad is
is_told bytes (lexical.BadUtf8 o l c) is = ap told_bad is
is_told bytes (lexical.LongNumber o l c) is = ap told_bad is
is_told bytes (lexical.LongName o l c) is = ap told_bad is

-- bytes have one first bad place
pub one_lex_fault : (bytes : List ℕ) (a b : LexFault) → IsLexFault bytes a → IsLexFault bytes b → a ≡ b
one_lex_fault bytes a b first second = sym (is_told bytes a first) ∙ is_told bytes b second

-- ---- places

-- a token stands at one place
one_place : (ts : List Placed) (k l c l' c' : ℕ) → StandsAt ts k l c → StandsAt ts k l' c' → (l ≡ l') × (c ≡ c')
one_place ts k l c l' c' first second =
    let same : first.0 ≡ second.0 = one_some first.0 second.0 (slice_get ts k) first.1 second.1 in
    (sym first.2 ∙ ap (λ t. t.line) same ∙ second.2, sym first.3 ∙ ap (λ t. t.column) same ∙ second.3)

-- tokens have one syntax fault
pub one_syntax_fault : {T : Type 0} (s : Syntax T) (ts : List Placed) (k l c k' l' c' : ℕ) → IsSyntaxFault s ts k l c
    → IsSyntaxFault s ts k' l' c' → faults.Syntax k l c ≡ faults.Syntax k' l' c'
one_syntax_fault s ts k l c k' l' c' first second =
    let token = one_dead s (map word_of ts) k k' first.first second.first in
    let place = one_place ts k' l c l' c' (subst (λ n. StandsAt ts n l c) token first.place) second.place in
    λ i. faults.Syntax (token i) (place.0 i) (place.1 i)

-- ---- what the text says

-- the fault that an item at a place is
abbrev fault_at : Item → ℕ → ℕ → ℕ → ReadFault
fault_at (Ill a) k l c = faults.IllFormed a k l c
fault_at (Over a) k l c = faults.Limit a k l c

-- tokens that spell a tree have one first flaw
pub one_first_flaw : {T V : Type 0} (format : Format T V) → Lawful format.syntax
    → (ts : List Placed) (a b : Item) (k l c k' l' c' : ℕ) → HasFlaw format ts a k l c → HasFlaw format ts b k' l' c'
    → fault_at a k l c ≡ fault_at b k' l' c'
one_first_flaw format law ts a b k l c k' l' c' first second =
    let tree = same_tree format law ts first.0 second.0 first.1 second.1 in
    let flaw = one_some (record { item = a; token = k }) (record { item = b; token = k' }) (format.flaw second.0)
    (sym (ap format.flaw tree) ∙ first.2) second.2 in
    let token : k ≡ k' = ap (λ (x : Flaw). x.token) flaw in
    let item : a ≡ b = ap (λ (x : Flaw). x.item) flaw in
    let place = one_place ts k' l c l' c' (subst (λ n. StandsAt ts n l c) token first.3) second.3 in
    λ i. fault_at (item i) (token i) (place.0 i) (place.1 i)

-- ---- answers

-- a fault is answered in one way
pub one_fault_answer : (a b : ReadFault) (s t : Status) (xs ys : List ℕ) → a ≡ b → IsFaultAnswer a s xs
    → IsFaultAnswer b t ys → (s ≡ t) × (xs ≡ ys)
one_fault_answer a b s t xs ys same first second =
    (first.0 ∙ ap fault_status same ∙ sym second.0, first.1 ∙ ap fault_text same ∙ sym second.1)
