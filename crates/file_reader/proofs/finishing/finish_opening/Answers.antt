use Rattle.std.proofs.Common.{◌≤◌, false, List, ℕ, map, sym, subst, arith}
use Rattle.std.proofs.lemmas.List.{length-map}
use Rattle.cyc_lex.specs.Lexing.{start}
use Rattle.cyc_lex.specs.Word.{word_of}
use Rattle.cyc_grammar.specs.Giving.{Fails}
use Rattle.cyc_grammar.specs.declared.cursor.Refusal.{Refusal}
use Rattle.proof_syntax.specs.Grammar.{file}
use Rattle.proof_syntax.proofs.GrammarLaws.{file-law}
use Rattle.file_reader.specs.Outcomes.{Outcome}
use Rattle.file_reader.specs.Lasts.{IsLastStretch}
use Rattle.file_reader.specs.Pieces.{Tells}
use Rattle.file_reader.specs.Stretches.{tokens_of}
use Rattle.file_reader.proofs.LastLaws.{stretch-size, opening-stands, opening-comes}
use Rattle.file_reader.proofs.StepLaws.{fault-within}
use Rattle.file_reader.proofs.finishing.finish_opening.Goals as goal

pub read_last-requires-clause-stands : goal.read_last-requires-clause-stands
read_last-requires-clause-stands c = opening-stands c.deref.result.now c.in_ok-stretch.stretch c.begin.new.cursor
    c.in-Ok.beginning c.in_ok-stretch.ensures c.in-Ok.ensures

pub dead-requires-clause-within : goal.dead-requires-clause-within
dead-requires-clause-within c =
    let s = c.in_ok-stretch.stretch in
    let ws = map word_of (tokens_of s) in
    let e = subst (λ (r : Refusal). Fails r (file.read ws)) c.in-Err-Dead.field-0-is c.in-Err-Dead.ensures in
    let within = fault-within file file-law ws c.in-Err-Dead.left e in
    subst (λ (n : ℕ). n ≤ s.count) (sym c.in-Err-Dead.left-is)
    (omega (arith, within, length-map (tokens_of s) word_of, stretch-size s c.in_ok-stretch.ensures.stretch))

pub returns-in-Ok : goal.returns-in-Ok
returns-in-Ok c =
    let s = c.in_ok-stretch.stretch in
    let last = subst (λ (b : List ℕ). IsLastStretch start false b 0 s) c.deref.ensures.value c.in_ok-stretch.ensures in
    subst (λ (o : Outcome). Tells o c.read_last.result)
    (sym (opening-comes c.args.opening.now.all.items s c.begin.new.cursor c.in-Ok.beginning last c.in-Ok.ensures))
    c.read_last.ensures
