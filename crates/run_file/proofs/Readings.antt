-- What is written is read again.
use Rattle.std.proofs.Common.{◌≡◌, ℕ, List, Result, Ok, Err, sym, ap, subst, ◌∙◌}
use Rattle.std.specs.Prelude.{IfOk}
use Rattle.cyc_lex.specs.declared.fault.ReadFault.{ReadFault}
use Rattle.cyc_lex.specs.Spacing.{text_of}
use Rattle.cyc_lex.proofs.Lexemes.{lexemes-read}
use Rattle.heap_reader.specs.Reading.{Spells}
use Rattle.heap_reader.proofs.Readings.{again, ok_tokens, one_value}
use Rattle.run_file.specs.declared.file.RunFile.{RunFile}
use Rattle.run_file.specs.Trees.{Run}
use Rattle.run_file.specs.Grammar.{body, run}
use Rattle.run_file.specs.Written.{text_of_run}
use Rattle.run_file.specs.Reading.{AreSame, IsRunOf, IsRead, IsReadAgain, Reads, run_files}
use Rattle.run_file.proofs.RunLaws.{run-law}
use Rattle.run_file.proofs.RunEnds.{body-inner}
use Rattle.run_file.proofs.RunsAgain.{tree_of_run, run_known}

-- a tree says one run
pub one_run : (t : Run) (r s : RunFile) → IsRunOf t r → IsRunOf t s → AreSame r s
one_run t r s first second = record {
  version = first.version ∙ sym second.version;
  most = first.most ∙ sym second.most;
  definitions = first.definitions ∙ sym second.definitions;
  program = first.program ∙ sym second.program;
  line = first.line ∙ sym second.line;
  precondition = first.precondition ∙ sym second.precondition;
  stack = first.stack ∙ sym second.stack;
  heap = first.heap ∙ sym second.heap;
  picks = first.picks ∙ sym second.picks;
  outcome = first.outcome ∙ sym second.outcome;
}

-- bytes spell one run
pub one_spelled : (bytes : List ℕ) (r s : RunFile) → IsRead bytes (Ok r) → IsRead bytes (Ok s) → AreSame r s
one_spelled bytes r s first second =
    one_value run_files run-law AreSame one_run first.0 r s first.2
    (subst (λ ts. Spells run_files ts s) (ok_tokens first.0 second.0 bytes first.1 second.1) second.2)

-- ---- what is written

abbrev text_of_run_file : RunFile → List ℕ
text_of_run_file r =
    text_of_run r.version r.defs.list r.program r.line r.precondition r.stack r.heap r.picks.items r.outcome

-- a run's text spells it
pub text_is_read : (r : RunFile) → IsRead (text_of_run_file r) (Ok r)
unfolding run
text_is_read r =
    let t = tree_of_run r in
    let has = lexemes-read (body.words t) (body-inner.inner t r.fits) in
    (has.0, has.1, (t, (r.fits, has.2), r.flawless, run_known r))

-- what is written of a run, if anything, spells it
pub written_is_read : {V E : Type 0} (items : V → List ℕ) (r : RunFile) (t : Run) (answer : Result V E)
    → t ≡ tree_of_run r → IfOk answer (λ v. items v ≡ text_of (body.words t))
    → IfOk answer (λ v. IsRead (items v) (Ok r))
written_is_read items r t (Ok v) same h =
    subst (λ bs. IsRead bs (Ok r)) (sym (h ∙ ap (λ u. text_of (body.words u)) same)) (text_is_read r)
written_is_read items r t (Err e) same h = tt

-- what is read of a run's text is that run
pub text_read_again : (r : RunFile) (bytes : List ℕ) (answer : Result RunFile ReadFault) → bytes ≡ text_of_run_file r
    → Reads bytes answer → IsReadAgain r answer
text_read_again r bytes answer same =
    again run_files run-law AreSame one_run r bytes answer (subst (λ bs. IsRead bs (Ok r)) (sym same) (text_is_read r))
