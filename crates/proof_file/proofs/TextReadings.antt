-- What is written is read again.
use Rattle.std.proofs.Common.{◌≡◌, ℕ, List, Result, Ok, Err, sym, ap, subst, ◌∙◌}
use Rattle.std.specs.Prelude.{IfOk}
use Rattle.cyc_lex.specs.declared.fault.ReadFault.{ReadFault}
use Rattle.cyc_lex.specs.Spacing.{text_of}
use Rattle.cyc_lex.proofs.Lexemes.{lexemes-read}
use Rattle.proof_syntax.specs.Trees.{File}
use Rattle.proof_syntax.specs.Grammar.{body, file}
use Rattle.proof_syntax.proofs.GrammarLaws.{file-law}
use Rattle.proof_syntax.proofs.GrammarEnds.{body-inner}
use Rattle.heap_reader.specs.Reading.{Spells}
use Rattle.heap_reader.proofs.Readings.{again, ok_tokens, one_value}
use Rattle.proof_file.specs.declared.file.ProofFile.{ProofFile}
use Rattle.proof_file.specs.Written.{tree_of, text_of_file}
use Rattle.proof_file.specs.Reading.{AreSame, IsRead, IsReadAgain, Reads, proof_files}
use Rattle.proof_file.proofs.Readings.{one_file}
use Rattle.proof_file.proofs.ValuesAgain.{file_known}

-- bytes spell one file
pub one_spelled : (bytes : List ℕ) (f g : ProofFile) → IsRead bytes (Ok f) → IsRead bytes (Ok g) → AreSame f g
one_spelled bytes f g first second =
    one_value proof_files file-law AreSame one_file first.0 f g first.2
    (subst (λ ts. Spells proof_files ts g) (ok_tokens first.0 second.0 bytes first.1 second.1) second.2)

-- ---- what is written

-- a file's text spells it
pub text_is_read : (f : ProofFile) → IsRead (text_of_file f.version f.defs.list f.program f.nodes) (Ok f)
unfolding file
text_is_read f =
    let t = tree_of f.version f.defs.list f.program f.nodes in
    let has = lexemes-read (body.words t) (body-inner.inner t f.fits) in
    (has.0, has.1, (t, (f.fits, has.2), f.flawless, file_known f))

-- what is written of a file, if anything, spells it
pub written_is_read : {V E : Type 0} (items : V → List ℕ) (f : ProofFile) (t : File) (r : Result V E)
    → t ≡ tree_of f.version f.defs.list f.program f.nodes → IfOk r (λ v. items v ≡ text_of (body.words t))
    → IfOk r (λ v. IsRead (items v) (Ok f))
written_is_read items f t (Ok v) same h =
    subst (λ bs. IsRead bs (Ok f)) (sym (h ∙ ap (λ u. text_of (body.words u)) same)) (text_is_read f)
written_is_read items f t (Err e) same h = tt

-- what is read of a file's text is that file
pub text_read_again : (f : ProofFile) (bytes : List ℕ) (answer : Result ProofFile ReadFault)
    → bytes ≡ text_of_file f.version f.defs.list f.program f.nodes → Reads bytes answer → IsReadAgain f answer
text_read_again f bytes answer same =
    again proof_files file-law AreSame one_file f bytes answer
    (subst (λ bs. IsRead bs (Ok f)) (sym same) (text_is_read f))
