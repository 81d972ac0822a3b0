use Rattle.std.proofs.Common.{◌≡◌, ◌≤◌, false, List, [], ℕ, ◌++◌, map, sym, ap, subst, ◌∙◌, arith}
use Rattle.std.proofs.lemmas.List.{length-map, nil_from_length}
use Rattle.cyc_lex.specs.Lexing.{start}
use Rattle.cyc_lex.specs.Word.{Word, word_of}
use Rattle.cyc_grammar.specs.Giving.{Fails}
use Rattle.cyc_grammar.specs.declared.cursor.Refusal.{Refusal}
use Rattle.piecewise_lex.specs.Spans.{front_tokens}
use Rattle.piecewise_lex.specs.Taking.{reading}
use Rattle.proof_syntax.specs.Grammar.{file}
use Rattle.proof_syntax.proofs.GrammarLaws.{file-law}
use Rattle.file_reader.specs.Beginnings.{IsBeginning}
use Rattle.file_reader.specs.Outcomes.{syntax_fault}
use Rattle.file_reader.proofs.HeldLaws.{front-stretch, begins-running, begins-faulty}
use Rattle.file_reader.proofs.RunLaws.{tokens-of-lexemes, span-size}
use Rattle.file_reader.proofs.StepLaws.{fault-within}
use Rattle.file_reader.proofs.feeding.opened_at.Goals as goal

pub cursor_over-cursor-requires-clause-stretch : goal.cursor_over-cursor-requires-clause-stretch
cursor_over-cursor-requires-clause-stretch c = front-stretch c.args.valid c.args.span c.requires.utf8 c.requires.taken
    c.requires.room

pub cursor_over-cursor-requires-clause-tokens : goal.cursor_over-cursor-requires-clause-tokens
cursor_over-cursor-requires-clause-tokens c = tokens-of-lexemes
    (map word_of (front_tokens c.args.span.tokens (reading start false c.args.valid.text.now))) c.requires.taken.lexemes

pub begin-requires-clause-stretch : goal.begin-requires-clause-stretch
begin-requires-clause-stretch c = front-stretch c.args.valid c.args.span c.requires.utf8 c.requires.taken
    c.requires.room

pub dead-requires-clause-stretch : goal.dead-requires-clause-stretch
dead-requires-clause-stretch c = front-stretch c.args.valid c.args.span c.requires.utf8 c.requires.taken c.requires.room

pub dead-requires-clause-within : goal.dead-requires-clause-within
dead-requires-clause-within c =
    let ts = front_tokens c.args.span.tokens (reading start false c.args.valid.text.now) in
    let e = subst (λ (r : Refusal). Fails r (file.read (map word_of ts))) c.in-Err-Dead.field-0-is c.in-Err-Dead.ensures
    in
    let within = fault-within file file-law (map word_of ts) c.in-Err-Dead.left e in
    subst (λ (n : ℕ). n ≤ c.args.span.tokens) (sym c.in-Err-Dead.left-is)
    (omega (
      arith,
      within,
      length-map ts word_of,
      span-size (reading start false c.args.valid.text.now)
          c.args.span c.requires.taken,
    ))

pub returns-in_ok-joined-in-Ok : goal.returns-in_ok-joined-in-Ok
returns-in_ok-joined-in-Ok c =
    let v = c.args.valid in
    let ts = front_tokens c.args.span.tokens (reading start false v.text.now) in
    let none : c.begin.new.cursor ≡ [] = nil_from_length c.begin.new.cursor
    (omega (arith, c.left.ensures, c.if-left-gt0.false)) in
    begins-running v c.args.span c.requires.utf8 c.requires.taken c.in_ok-joined-in-Ok.field-0
    (c.in_ok-joined-in-Ok.ensures ∙ ap (λ (b : List ℕ). b ++ v.tail.now) c.as_bytes.ensures.value)
    c.in-Ok.beginning 0
    (subst (λ (ws : List Word). IsBeginning ts ws c.in-Ok.beginning) none c.in-Ok.ensures)

pub returns-in_ok-joined-in-Err-Dead : goal.returns-in_ok-joined-in-Err-Dead
returns-in_ok-joined-in-Err-Dead c =
    let v = c.args.valid in
    let ts = front_tokens c.args.span.tokens (reading start false v.text.now) in
    let e = subst (λ (r : Refusal). Fails r (file.read (map word_of ts))) c.in-Err-Dead.field-0-is c.in-Err-Dead.ensures
    in
    begins-faulty v c.args.span c.requires.utf8 c.requires.taken c.in_ok-joined-in-Err-Dead.field-0
    (c.in_ok-joined-in-Err-Dead.ensures ∙ ap (λ (b : List ℕ). b ++ v.tail.now) c.as_bytes-in-Err-Dead.ensures.value)
    c.in-Err-Dead.left c.dead.result 0
    (omega (arith, c.if-left-eq0.false, c.in-Err-Dead.left-is)) e
    (c.dead.ensures ∙ ap (λ (n : ℕ). syntax_fault 0 ts n) c.in-Err-Dead.left-is)
