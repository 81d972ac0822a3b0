-- A reader that was fed nothing stands for what is read of the bytes that it will be fed.
use Rattle.std.proofs.Common.{◌≡◌, ℕ, ◌+◌, ◌-◌, List, [], length, take, Some, None, Result, Ok, Err, refl, sym, ap}
use Rattle.std.proofs.Common.{subst, ◌∙◌, arith, inl, inr, ◌⊎◌}
use Rattle.std.specs.Prelude.{map, slice_get}
use Rattle.std.specs.Str.{chars, IsUtf8, IsValidUpTo}
use Rattle.std.specs.Str.Lossy.{utf8_valid_len}
use Rattle.std.proofs.lemmas.List.{length-map}
use Rattle.cyc_lex.specs.declared.fault.LexFault.{LexFault}
use Rattle.cyc_lex.specs.declared.fault.LexFault.TheVariants as lexical
use Rattle.cyc_lex.specs.declared.fault.ReadFault.{ReadFault}
use Rattle.cyc_lex.specs.declared.fault.ReadFault.TheVariants as faults
use Rattle.cyc_lex.specs.declared.place.Bad.{Bad}
use Rattle.cyc_lex.specs.declared.place.Bad.TheVariants as bads
use Rattle.cyc_lex.specs.declared.place.Place.{Place}
use Rattle.cyc_lex.specs.Answer.{fault_of}
use Rattle.cyc_lex.specs.Lexing.{start, lex, tokens_of, comment_len}
use Rattle.cyc_lex.specs.Placed.{Placed}
use Rattle.cyc_lex.specs.Word.{word_of, EndsOnce}
use Rattle.cyc_lex.proofs.Lexed.{whole-text}
use Rattle.cyc_lex.proofs.TokenLaws.{known, unknown}
use Rattle.cyc_grammar.specs.Syntax.{read_whole}
use Rattle.cyc_grammar.specs.Faults.{IsSyntaxFault}
use Rattle.cyc_grammar.specs.declared.cursor.Refusal.TheVariants as refusals
use Rattle.cyc_grammar.proofs.FirstDead.{one_dead}
use Rattle.cyc_grammar.proofs.Laws.{whole_ok, whole_again}
use Rattle.cyc_grammar.proofs.WholeTexts.{err-within, err-exact}
use Rattle.piecewise_lex.specs.Feeding.{tokens_from, valid_chars}
use Rattle.piecewise_lex.proofs.Utf8Cuts.{valid-cases}
use Rattle.piecewise_lex.proofs.Takes.{whole-not}
use Rattle.heap_reader.specs.declared.flaw.Item.{Item}
use Rattle.heap_reader.specs.declared.flaw.Item.TheVariants.{Ill, Over}
use Rattle.heap_reader.specs.declared.flaw.Flaw.{Flaw}
use Rattle.heap_reader.specs.Flaws.{Found}
use Rattle.heap_reader.specs.Reading.{SpellsTree}
use Rattle.heap_reader.specs.Spans.{total}
use Rattle.heap_reader.proofs.Readings.{no_syntax_fault}
use Rattle.heap_reader.proofs.WithinSpans.{flaw_within}
use Rattle.proof_syntax.specs.Trees.{File}
use Rattle.proof_syntax.specs.Grammar.{file}
use Rattle.proof_syntax.proofs.GrammarLaws.{file-law}
use Rattle.proof_syntax.proofs.GrammarEnds.{file-last}
use Rattle.proof_file.specs.declared.file.ProofFile.{ProofFile}
use Rattle.proof_file.specs.Flaws.{first_node, file_flaw}
use Rattle.proof_file.specs.Spans.{node_span}
use Rattle.proof_file.specs.Reading.{IsRead, proof_files}
use Rattle.proof_file.proofs.SpanLaws.{file_words}
use Rattle.proof_file.proofs.WithinSpans.{file_before}
use Rattle.heap_reader.specs.Told.{item_fault}
use Rattle.file_reader.specs.Outcomes.{Outcome, Agrees, at_token, syntax_fault, told_flaw, settled, said_of}
use Rattle.file_reader.specs.Outcomes.{file_outcome}
use Rattle.file_reader.specs.Stages.{Head, fresh, behind, outcome}
use Rattle.file_reader.proofs.Tokens.{slice-there}

-- ---- tokens

pub tokens-end : (bytes : List ℕ) (ts : List Placed) → tokens_of bytes ≡ Ok ts → EndsOnce (map word_of ts)
tokens-end bytes ts e = by (valid-cases bytes)
  where
    by : IsUtf8 bytes ⊎ IsValidUpTo bytes (utf8_valid_len bytes) → EndsOnce (map word_of ts)
    by (inl u) = (known {X = List Placed} (λ x. x) bytes bytes (Ok ts) refl u (whole-text bytes bytes refl u ∙ e)).words
    by (inr v) =
        let n = utf8_valid_len bytes in
        (unknown {X = List Placed} (λ x. x) bytes (take n bytes) (Ok ts)
        (ap (λ b. lex b start 0 (chars (take n bytes))) (whole-not bytes n refl v.short) ∙ e)).words

-- ---- faults, as they are told

syntax-is : (ts : List Placed) (left k : ℕ) (t : Placed) → k ≡ length ts - left → slice_get ts k ≡ Some t
    → faults.Syntax k t.line t.column ≡ syntax_fault 0 ts left
syntax-is ts left k t is there = ap (at_token faults.Syntax k) (sym there)
    ∙ ap (λ n. at_token faults.Syntax n (slice_get ts n)) is
    ∙ ap (λ n. at_token faults.Syntax n (slice_get ts (length ts - left))) (omega arith)

flaw-is : (ts : List Placed) (flaw : Flaw) (t : Placed) → slice_get ts flaw.token ≡ Some t
    → item_fault flaw.item flaw.token t.line t.column ≡ at_token (item_fault flaw.item) flaw.token
    (slice_get ts (flaw.token - 0))
flaw-is ts flaw t there = ap (at_token (item_fault flaw.item) flaw.token) (sym there ∙ ap (slice_get ts) (omega arith))

-- ---- what the text comes to is read of it

lex-read : (bytes : List ℕ) (bad : Bad) (p : Place) → tokens_of bytes ≡ Err (bad, p)
    → IsRead bytes (Err (faults.Lex (fault_of bad p)))
lex-read bytes bads.Byte p e = e
lex-read bytes bads.Utf8 p e = e
lex-read bytes bads.LongNumber p e = e
lex-read bytes bads.LongName p e = e

syntax-read : (bytes : List ℕ) (ts : List Placed) (left : ℕ) → tokens_of bytes ≡ Ok ts
    → read_whole file (map word_of ts) ≡ Err left → IsRead bytes (Err (syntax_fault 0 ts left))
syntax-read bytes ts left is e =
    let within = err-within {X = File} file file-law file-last (λ x. x) ts (Err (refusals.Dead left))
    (refusals.Dead left) refl e (tokens-end bytes ts is) in
    let k = length ts - left in
    let t = slice-there ts k (omega (arith, within.0, within.1)) in
    let fault = err-exact {X = File} file file-law (λ x. x) ts (Err (refusals.Dead left)) (refusals.Dead left)
    (faults.Syntax k t.0.line t.0.column) refl e within (omega (arith, within.1), (t.0, t.1, refl, refl)) in
    subst (λ f. IsRead bytes (Err f)) (syntax-is ts left k t.0 refl t.1) (ts, is, fault)

flaw-read : (bytes : List ℕ) (ts : List Placed) (tree : File) (item : Item) (token : ℕ) (t : Placed)
    → tokens_of bytes ≡ Ok ts → SpellsTree proof_files ts tree
    → file_flaw tree ≡ Some (record { item = item; token = token }) → slice_get ts token ≡ Some t
    → IsRead bytes (Err (item_fault item token t.line t.column))
flaw-read bytes ts tree (Ill fault) token t is spelled flaw there =
    (ts, is, (tree, spelled, flaw, (t, there, refl, refl)))
flaw-read bytes ts tree (Over what) token t is spelled flaw there =
    (ts, is, (tree, spelled, flaw, (t, there, refl, refl)))

tree-read : (bytes : List ℕ) (ts : List Placed) (tree : File) → tokens_of bytes ≡ Ok ts → SpellsTree proof_files ts tree
    → (o : Found) → file_flaw tree ≡ o → (answer : Result ProofFile ReadFault)
    → Agrees (settled (told_flaw 0 ts o) (said_of tree)) answer → IsRead bytes answer
tree-read bytes ts tree is spelled None clean (Ok v) h = (
  ts,
  is,
  (
    tree,
    spelled,
    clean,
    record {
      version = h.version;
      most = h.most;
      definitions = h.definitions;
      program = h.program;
      nodes = h.nodes;
    },
  ),
)
tree-read bytes ts tree is spelled None clean (Err f) h = absurd h
tree-read bytes ts tree is spelled (Some flaw) e (Ok v) h = absurd h
tree-read bytes ts tree is spelled (Some flaw) e (Err f) h =
    let within = flaw_within (file_flaw tree) (first_node tree + total node_span tree.nodes) flaw (file_before tree) e
    in
    let t = slice-there ts flaw.token (omega (
      arith,
      within,
      file_words tree spelled.0,
      ap length spelled.1,
      length-map ts word_of,
    )) in
    subst (λ (x : ReadFault). IsRead bytes (Err x)) {x = item_fault flaw.item flaw.token t.0.line t.0.column}
    (flaw-is ts flaw t.0 t.1 ∙ sym h) (flaw-read bytes ts tree flaw.item flaw.token t.0 is spelled e t.1)

tokens-read : (bytes : List ℕ) (ts : List Placed) → tokens_of bytes ≡ Ok ts → (q : Result File ℕ)
    → read_whole file (map word_of ts) ≡ q → (answer : Result ProofFile ReadFault) → Agrees (file_outcome ts q) answer
    → IsRead bytes answer
tokens-read bytes ts is (Err left) e (Ok v) h = absurd h
tokens-read bytes ts is (Err left) e (Err f) h = subst (λ (x : ReadFault). IsRead bytes (Err x)) (sym h)
    (syntax-read bytes ts left is e)
tokens-read bytes ts is (Ok tree) e answer h = tree-read bytes ts tree is
    (whole_ok file file-law (map word_of ts) tree e) (file_flaw tree) refl answer h

bytes-read : (bytes : List ℕ) (r : Result (List Placed) (Bad × Place)) → tokens_of bytes ≡ r
    → (answer : Result ProofFile ReadFault) → Agrees (behind (Head []) r) answer → IsRead bytes answer
bytes-read bytes (Err e) is (Ok v) h = absurd h
bytes-read bytes (Err e) is (Err f) h = subst (λ (x : ReadFault). IsRead bytes (Err x)) (sym h)
    (lex-read bytes e.0 e.1 is)
bytes-read bytes (Ok ts) is answer h = tokens-read bytes ts is (read_whole file (map word_of ts)) refl answer h

-- ---- what is read of a text is what it comes to

lex-comes : (bytes : List ℕ) (bad : Bad) (p : Place) (fault : LexFault) → fault ≡ fault_of bad p
    → tokens_of bytes ≡ Err (bad, p) → Agrees (behind (Head []) (tokens_of bytes)) (Err (faults.Lex fault))
lex-comes bytes bad p fault same e = subst (λ r. Agrees (behind (Head []) r) (Err (faults.Lex fault))) (sym e)
    (ap faults.Lex same)

tree-outcome : (bytes : List ℕ) (ts : List Placed) (tree : File) → tokens_of bytes ≡ Ok ts
    → SpellsTree proof_files ts tree → behind (Head []) (tokens_of bytes)
    ≡ settled (told_flaw 0 ts (file_flaw tree)) (said_of tree)
tree-outcome bytes ts tree is spelled =
    ap (behind (Head [])) is ∙ ap (file_outcome ts) (ap (read_whole file) spelled.1
    ∙ whole_again file file-law tree spelled.0)

flaw-comes : (bytes : List ℕ) (ts : List Placed) (tree : File) (flaw : Flaw) (t : Placed) → tokens_of bytes ≡ Ok ts
    → SpellsTree proof_files ts tree → file_flaw tree ≡ Some flaw → slice_get ts flaw.token ≡ Some t
    → Agrees (behind (Head []) (tokens_of bytes)) (Err (item_fault flaw.item flaw.token t.line t.column))
flaw-comes bytes ts tree flaw t is spelled e there =
    subst (λ (o : Outcome). Agrees o (Err (item_fault flaw.item flaw.token t.line t.column)))
    (sym (tree-outcome bytes ts tree is spelled ∙ ap (λ (o : Found). settled (told_flaw 0 ts o) (said_of tree)) e))
    (flaw-is ts flaw t there)

syntax-comes : (bytes : List ℕ) (ts : List Placed) (k : ℕ) (t : Placed) → tokens_of bytes ≡ Ok ts
    → IsSyntaxFault file ts k t.line t.column → slice_get ts k ≡ Some t → (q : Result File ℕ)
    → read_whole file (map word_of ts) ≡ q → Agrees (file_outcome ts q) (Err (faults.Syntax k t.line t.column))
syntax-comes bytes ts k t is f there (Ok tree) e = absurd
    (no_syntax_fault proof_files file-law ts tree k t.line t.column (whole_ok file file-law (map word_of ts) tree e) f)
syntax-comes bytes ts k t is f there (Err left) e =
    let within = err-within {X = File} file file-law file-last (λ x. x) ts (Err (refusals.Dead left))
    (refusals.Dead left) refl e (tokens-end bytes ts is) in
    let j = length ts - left in
    let u = slice-there ts j (omega (arith, within.0, within.1)) in
    let other = err-exact {X = File} file file-law (λ x. x) ts (Err (refusals.Dead left)) (refusals.Dead left)
    (faults.Syntax j u.0.line u.0.column) refl e within (omega (arith, within.1), (u.0, u.1, refl, refl)) in
    syntax-is ts left k t (one_dead file (map word_of ts) k j f.first other.first) there

read-comes : (bytes : List ℕ) (answer : Result ProofFile ReadFault) → IsRead bytes answer
    → Agrees (behind (Head []) (tokens_of bytes)) answer
read-comes bytes (Ok v) (ts, is, (tree, spelled, clean, says)) =
    subst (λ (o : Outcome). Agrees o (Ok v)) (sym (tree-outcome bytes ts tree is spelled
    ∙ ap (λ (o : Found). settled (told_flaw 0 ts o) (said_of tree)) clean))
    (record {
      version = says.version;
      most = says.most;
      definitions = says.definitions;
      program = says.program;
      nodes = says.nodes;
    })
read-comes bytes (Err (faults.Lex lexical.OutOfMemory)) h = absurd h
read-comes bytes (Err (faults.Lex (lexical.BadByte o l c))) h = lex-comes bytes bads.Byte
    (record { offset = o; line = l; column = c }) (lexical.BadByte o l c) refl h
read-comes bytes (Err (faults.Lex (lexical.BadUtf8 o l c))) h = lex-comes bytes bads.Utf8
    (record { offset = o; line = l; column = c }) (lexical.BadUtf8 o l c) refl h
read-comes bytes (Err (faults.Lex (lexical.LongNumber o l c))) h = lex-comes bytes bads.LongNumber
    (record { offset = o; line = l; column = c }) (lexical.LongNumber o l c) refl h
read-comes bytes (Err (faults.Lex (lexical.LongName o l c))) h = lex-comes bytes bads.LongName
    (record { offset = o; line = l; column = c }) (lexical.LongName o l c) refl h
read-comes bytes (Err (faults.Syntax k line column)) h =
    let ts = h.0 in
    let place = h.2.place in
    let t = place.0 in
    let here : faults.Syntax k t.line t.column ≡ faults.Syntax k line column = λ i.
    faults.Syntax k (place.2 i) (place.3 i) in
    let fault : IsSyntaxFault file ts k t.line t.column = record { first = h.2.first; place = (t, place.1, refl, refl) }
    in
    subst (λ (x : ReadFault). Agrees (behind (Head []) (tokens_of bytes)) (Err x)) here
    (subst (λ r. Agrees (behind (Head []) r) (Err (faults.Syntax k t.line t.column))) (sym h.1)
    (syntax-comes bytes ts k t h.1 fault place.1 (read_whole file (map word_of ts)) refl))
read-comes bytes (Err (faults.IllFormed fault k line column)) h =
    let place = h.2.3 in
    subst (λ (x : ReadFault). Agrees (behind (Head []) (tokens_of bytes)) (Err x))
    (λ i. faults.IllFormed fault k (place.2 i) (place.3 i))
    (flaw-comes bytes h.0 h.2.0 (record { item = Ill fault; token = k }) place.0 h.1 h.2.1 h.2.2 place.1)
read-comes bytes (Err (faults.Limit what k line column)) h =
    let place = h.2.3 in
    subst (λ (x : ReadFault). Agrees (behind (Head []) (tokens_of bytes)) (Err x))
    (λ i. faults.Limit what k (place.2 i) (place.3 i))
    (flaw-comes bytes h.0 h.2.0 (record { item = Over what; token = k }) place.0 h.1 h.2.1 h.2.2 place.1)
read-comes bytes (Err faults.OutOfMemory) h = absurd h

-- ---- a fresh reader

fresh-is : (bytes : List ℕ) → outcome fresh bytes ≡ behind (Head []) (tokens_of bytes)
unfolding tokens_from comment_len valid_chars
fresh-is bytes = refl

pub fresh-read : (bytes : List ℕ) (answer : Result ProofFile ReadFault) → Agrees (outcome fresh bytes) answer
    → IsRead bytes answer
fresh-read bytes answer h = bytes-read bytes (tokens_of bytes) refl answer
    (subst (λ (o : Outcome). Agrees o answer) (fresh-is bytes) h)

pub fresh-comes : (bytes : List ℕ) (answer : Result ProofFile ReadFault) → IsRead bytes answer
    → Agrees (outcome fresh bytes) answer
fresh-comes bytes answer h = subst (λ (o : Outcome). Agrees o answer) (sym (fresh-is bytes)) (read-comes bytes answer h)
