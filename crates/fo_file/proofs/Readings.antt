-- What is written is read again.
use Rattle.std.proofs.Common.{◌≡◌, ℕ, List, Result, Ok, Err, sym, ap, subst, ◌∙◌}
use Rattle.std.specs.Prelude.{IfOk}
use Rattle.cyc_lex.specs.declared.fault.ReadFault.{ReadFault}
use Rattle.cyc_lex.specs.Spacing.{text_of}
use Rattle.cyc_lex.proofs.Lexemes.{lexemes-read}
use Rattle.heap_reader.specs.Reading.{Spells}
use Rattle.heap_reader.proofs.Readings.{again, ok_tokens, one_value}
use Rattle.fo_formula.specs.declared.nodes.FoFile.{FoFile}
use Rattle.fo_syntax.specs.ProblemTrees.{Problem}
use Rattle.fo_syntax.proofs.TheoryLaws.{problem-law}
use Rattle.fo_syntax.specs.ProofTrees.{File}
use Rattle.fo_syntax.specs.ProofGrammar.{body, file}
use Rattle.fo_syntax.proofs.ProofLaws.{file-law}
use Rattle.fo_syntax.proofs.ProofEnds.{body-inner}
use Rattle.fo_file.specs.declared.values.problem.FoProblem.{FoProblem}
use Rattle.fo_file.specs.Written.{file_tree}
use Rattle.fo_file.specs.Reading.{IsFileOf, IsProblemOf, IsRead, IsReadAgain, IsReadProblem, IsWritable, Reads}
use Rattle.fo_file.specs.Reading.{fo_files, fo_problems, text_of_file}
use Rattle.fo_file.proofs.ValuesAgain.{file-said}

one-file : (t : File) (f g : FoFile) → IsFileOf t f → IsFileOf t g → f ≡ g
one-file t f g first second = first ∙ sym second

one-problem : (t : Problem) (p q : FoProblem) → IsProblemOf t p → IsProblemOf t q → p ≡ q
one-problem t p q first second = first ∙ sym second

-- bytes spell one proof, and one problem
pub one-spelled : (bytes : List ℕ) (f g : FoFile) → IsRead bytes (Ok f) → IsRead bytes (Ok g) → f ≡ g
one-spelled bytes f g first second =
    one_value fo_files file-law (λ x y. x ≡ y) one-file first.0 f g first.2
    (subst (λ ts. Spells fo_files ts g) (ok_tokens first.0 second.0 bytes first.1 second.1) second.2)

pub one-spelled-problem : (bytes : List ℕ) (p q : FoProblem) → IsReadProblem bytes (Ok p) → IsReadProblem bytes (Ok q)
    → p ≡ q
one-spelled-problem bytes p q first second =
    one_value fo_problems problem-law (λ x y. x ≡ y) one-problem first.0 p q first.2
    (subst (λ ts. Spells fo_problems ts q) (ok_tokens first.0 second.0 bytes first.1 second.1) second.2)

-- ---- what is written

-- a proof's text spells it
pub text-is-read : (f : FoFile) → IsWritable f → IsRead (text_of_file f) (Ok f)
unfolding file
text-is-read f writable =
    let t = file_tree f in
    let has = lexemes-read (body.words t) (body-inner.inner t writable.fits) in (
      has.0,
      has.1,
      (
        t,
        (writable.fits, has.2),
        writable.flawless,
        file-said f writable.fits writable.flawless writable.terms,
      ),
    )

-- what is written of a proof, if anything, spells it
pub written-is-read : {V E : Type 0} (items : V → List ℕ) (f : FoFile) (t : File) (r : Result V E) → IsWritable f
    → t ≡ file_tree f → IfOk r (λ v. items v ≡ text_of (body.words t)) → IfOk r (λ v. IsRead (items v) (Ok f))
written-is-read items f t (Ok v) writable same h =
    subst (λ bs. IsRead bs (Ok f)) (sym (h ∙ ap (λ u. text_of (body.words u)) same)) (text-is-read f writable)
written-is-read items f t (Err e) writable same h = tt

-- what is read of a proof's text is that proof
pub text-read-again : (f : FoFile) (bytes : List ℕ) (answer : Result FoFile ReadFault) → IsWritable f
    → bytes ≡ text_of_file f → Reads bytes answer → IsReadAgain f answer
text-read-again f bytes answer writable same =
    again fo_files file-law (λ x y. x ≡ y) one-file f bytes answer
    (subst (λ bs. IsRead bs (Ok f)) (sym same) (text-is-read f writable))
