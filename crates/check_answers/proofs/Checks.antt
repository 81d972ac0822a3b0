-- What a check's answer says, and that an input has one, but for the lasso that is named.
use Rattle.std.proofs.Common.{◌≡◌, ◌≤◌, ℕ, List, ap, sym, ◌∙◌, arith, inl, inr, length, refl}
use Rattle.std.specs.Prelude.{Result, Ok, Err}
use Rattle.buchi_inclusion.specs.Answers.{HasAtMost}
use Rattle.cyc_lex.specs.declared.fault.ReadFault.{ReadFault}
use Rattle.proof_file.specs.declared.file.ProofFile.{ProofFile}
use Rattle.proof_file.specs.Reading.{AreSame, IsRead}
use Rattle.proof_check.specs.Verdicts.{Verdict}
use Rattle.logics.specs.declared.verdict.Verdict.TheVariants.{Accepted, RuleRefused, PathRefused, TooManyStates}
use Rattle.proof_check.specs.Verdicts.{file_graph, state_limit, IsCorrect, IsVerdict, RootHolds}
use Rattle.proof_check.proofs.OneAnswer.{correct_is_accepted}
use Rattle.cyc_runs.specs.declared.endings.Status.{Status}
use Rattle.cyc_runs.specs.declared.endings.Status.TheVariants as status
use Rattle.cyc_runs.specs.Runs.{IsAnswerOf, input_limit}
use Rattle.cyc_runs.proofs.WaysToEnd.{fault_fails, fault_is_no_refusal}
use Rattle.check_answers.specs.Alike.{AreAlike, AreOneCheck}
use Rattle.check_answers.proofs.Files.{one_file_reading}
use Rattle.check_answers.proofs.OneAnswer.{one_of}
use Rattle.check_answers.proofs.OneCheck.{said_one}
use Rattle.check_answers.proofs.OneFault.{one_fault_answer}
use Rattle.check_answers.specs.Answers.{IsChecked, IsReadAnswer, nodes_text, verdict_status, verdict_text}
use Rattle.check_answers.proofs.OneVerdict.{one_verdict, right_faulty, same_verdict}

-- ---- success

-- a verdict that ends a check with success accepts the file
success_accepts : (file : ProofFile) (v : Verdict) → IsVerdict file v → status.Success ≡ verdict_status v
    → RootHolds file
success_accepts file Accepted is e = is.2
success_accepts file (RuleRefused node fault) is e = absurd cc
success_accepts file (PathRefused lasso) is e = absurd cc
success_accepts file TooManyStates is e = absurd cc

success_reads : (input : List ℕ) (r : Result ProofFile ReadFault) (xs : List ℕ) → IsRead input r
    → IsReadAnswer r status.Success xs → (file : ProofFile) × IsRead input (Ok file) × RootHolds file
success_reads input (Ok file) xs is answer = (file, is, success_accepts file answer.0 answer.1 answer.2)
success_reads input (Err fault) xs is answer = absurd (fault_fails fault answer.0)

-- a check that ends with success read a file whose root holds
pub success_holds : (input xs : List ℕ) → IsAnswerOf IsChecked input status.Success xs
    → (file : ProofFile) × IsRead input (Ok file) × RootHolds file
success_holds input xs (inl long) = absurd (let e : status.Success ≡ status.Limit = long.1 in cc)
success_holds input xs (inr checked) = success_reads input checked.1 xs checked.2 checked.3

-- ---- refusal

-- a verdict that ends a check with a refusal is on a file that is not correct
refusal_incorrect : (file : ProofFile) (v : Verdict) → IsVerdict file v → status.Refused ≡ verdict_status v
    → ¬ IsCorrect file
refusal_incorrect file Accepted is e correct = absurd cc
refusal_incorrect file (RuleRefused node fault) is e correct = right_faulty file node fault correct.nodes is
refusal_incorrect file (PathRefused lasso) is e correct = is.2 (correct.paths lasso is.1)
refusal_incorrect file TooManyStates is e correct = absurd cc

refused_reads : (input : List ℕ) (r : Result ProofFile ReadFault) (xs : List ℕ) → IsRead input r
    → IsReadAnswer r status.Refused xs → (file : ProofFile) × IsRead input (Ok file) × (¬ IsCorrect file)
refused_reads input (Ok file) xs is answer = (file, is, refusal_incorrect file answer.0 answer.1 answer.2)
refused_reads input (Err fault) xs is answer = absurd (fault_is_no_refusal fault answer.0)

-- a check that ends with a refusal read a file that is not correct
pub check_refuses : (input xs : List ℕ) → IsAnswerOf IsChecked input status.Refused xs
    → (file : ProofFile) × IsRead input (Ok file) × (¬ IsCorrect file)
check_refuses input xs (inl long) = absurd (let e : status.Refused ≡ status.Limit = long.1 in cc)
check_refuses input xs (inr checked) = refused_reads input checked.1 xs checked.2 checked.3

-- ---- correct files

-- the verdict on a correct file with few states ends a check with success
accepted_ends : (f g : ProofFile) (v : Verdict) → AreSame f g → IsVerdict f v → IsCorrect g
    → HasAtMost (file_graph g) state_limit → verdict_status v ≡ status.Success
accepted_ends f g v same is correct few = ap verdict_status
    (correct_is_accepted g v (same_verdict f g same v is) correct few)

read_accepts : (r : Result ProofFile ReadFault) (g : ProofFile) (s : Status) (text : List ℕ) → AreAlike AreSame r (Ok g)
    → IsCorrect g → HasAtMost (file_graph g) state_limit → IsReadAnswer r s text → s ≡ status.Success
read_accepts (Ok f) g s text same correct few answer = answer.2 ∙ accepted_ends f g answer.0 same answer.1 correct few
read_accepts (Err fault) g s text same correct few answer = absurd same

-- a check of a correct file with few states is answered with success
pub check_accepts : (input : List ℕ) (g : ProofFile) (s : Status) (text : List ℕ) → length input ≤ input_limit
    → IsRead input (Ok g) → IsCorrect g → HasAtMost (file_graph g) state_limit → IsAnswerOf IsChecked input s text
    → s ≡ status.Success
check_accepts input g s text short is correct few (inl long) = absurd (omega (arith, long.0))
check_accepts input g s text short is correct few (inr checked) =
    read_accepts checked.1 g s text (one_file_reading input checked.1 (Ok g) checked.2 is) correct few checked.3

-- ---- one answer

-- like files are told of alike
same_said : (f g : ProofFile) (v : Verdict) → AreSame f g → verdict_text f v ≡ verdict_text g v
same_said f g Accepted same = λ i. nodes_text (same.program i) (same.nodes i)
same_said f g (RuleRefused node fault) same = refl
same_said f g (PathRefused lasso) same = refl
same_said f g TooManyStates same = refl

one_read_check : (r q : Result ProofFile ReadFault) (s t : Status) (xs ys : List ℕ) → AreAlike AreSame r q
    → IsReadAnswer r s xs → IsReadAnswer q t ys → (s ≡ t) × AreOneCheck xs ys
one_read_check (Ok f) (Ok g) s t xs ys same first second =
    let one = one_verdict g first.0 second.0 (same_verdict f g same first.0 first.1) second.1 in (
      first.2 ∙ one.0 ∙ sym second.2,
      said_one xs ys (verdict_text g first.0) (verdict_text g second.0)
          (first.3 ∙ same_said f g first.0 same) second.3 one.1,
    )
one_read_check (Err a) (Err b) s t xs ys same first second =
    let one = one_fault_answer a b s t xs ys same first second in (one.0, inl one.1)
one_read_check (Ok f) (Err b) s t xs ys same first second = absurd same
one_read_check (Err a) (Ok g) s t xs ys same first second = absurd same

one_checked : (input : List ℕ) (s t : Status) (xs ys : List ℕ) → IsChecked input s xs → IsChecked input t ys
    → (s ≡ t) × AreOneCheck xs ys
one_checked input s t xs ys first second =
    one_read_check first.1 second.1 s t xs ys (one_file_reading input first.1 second.1 first.2 second.2)
    first.3 second.3

-- an input has one answer to a check
pub one_check : (input : List ℕ) (s t : Status) (xs ys : List ℕ) → IsAnswerOf IsChecked input s xs
    → IsAnswerOf IsChecked input t ys → (s ≡ t) × AreOneCheck xs ys
one_check = one_of IsChecked AreOneCheck (λ zs us e. inl e) one_checked (λ i u zs is. is.0)
