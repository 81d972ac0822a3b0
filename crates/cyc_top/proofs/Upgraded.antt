-- What a check says of an upgraded file.
use Rattle.std.proofs.Common.{◌≡◌, ℕ, ◌≤◌, List, true, refl, sym, ap, subst, arith, inl, inr, length, Option, Some}
use Rattle.std.specs.Prelude.{Result, Ok, Err, slice_get}
use Rattle.std.specs.Io.KnownBytes.{Appends}
use Rattle.heap_formula.specs.Judgements.{JudgementHolds}
use Rattle.buchi_inclusion.specs.Answers.{HasAtMost}
use Rattle.cyc_lex.specs.declared.fault.ReadFault.{ReadFault}
use Rattle.proof_file.specs.declared.file.ProofFile.{ProofFile}
use Rattle.proof_file.specs.Reading.{AreSame, IsRead}
use Rattle.proof_file.specs.Upgrades.{IsUpgrade}
use Rattle.proof_file.proofs.TextReadings.{text_is_read}
use Rattle.proof_check.specs.Verdicts.{Verdict}
use Rattle.logics.specs.declared.verdict.Verdict.TheVariants.{Accepted, RuleRefused, PathRefused, TooManyStates}
use Rattle.proof_check.specs.Verdicts.{IsVerdict, RootHolds, state_limit}
use Rattle.proof_check.proofs.Upgraded.{correct_again, same_graph, upgrade_widens}
use Rattle.cyc_words.specs.declared.tasks.Task.{Task}
use Rattle.cyc_words.specs.declared.tasks.Task.TheVariants.{Check, Upgrade}
use Rattle.cyc_runs.specs.declared.endings.Status.{Status}
use Rattle.cyc_runs.specs.declared.endings.Status.TheVariants as status
use Rattle.cyc_runs.specs.Endings.{is_answer}
use Rattle.cyc_runs.specs.Runs.{input_limit}
use Rattle.check_answers.specs.Answers.{IsReadAnswer, nodes_text, verdict_status}
use Rattle.cyc_top.specs.Answers.{Answers, IsAcceptedToo, IsAnswer, IsUpgradeAnswer, WroteAnswer, WroteUpgrade}
use Rattle.cyc_top.specs.Answers.{file_text}
use Rattle.check_answers.specs.Alike.{AreAlike}
use Rattle.check_answers.proofs.OneVerdict.{same_verdict}
use Rattle.check_answers.proofs.Files.{one_file_reading}
use Rattle.cyc_runs.proofs.WaysToEnd.{fault_fails}
use Rattle.cyc_top.proofs.Exact.{answer_for}

-- the root of an upgraded file holds as before
root_again : (f g : ProofFile) → IsUpgrade f g → RootHolds f → RootHolds g
root_again f g up holds root at =
    subst (λ ds. JudgementHolds ds g.program root.judgement) (sym up.definitions)
    (subst (λ lines. JudgementHolds f.defs.list lines root.judgement) (sym up.program)
    (holds root (subst (λ nodes. slice_get nodes 0 ≡ Some root) up.nodes at)))

-- an accepted file is accepted when it is upgraded
accepted_again : (f g : ProofFile) → IsUpgrade f g → IsVerdict f Accepted → IsVerdict g Accepted
accepted_again f g up is = let wider = upgrade_widens f g up in (
  correct_again f g wider is.0,
  subst (λ graph. HasAtMost graph state_limit) (sym (same_graph f g wider is.0)) is.1,
  root_again f g up is.2,
)

-- a check that ends with success accepts
accepted : (f : ProofFile) (v : Verdict) → IsVerdict f v → status.Success ≡ verdict_status v → IsVerdict f Accepted
accepted f Accepted is e = is
accepted f (RuleRefused node fault) is e = absurd cc
accepted f (PathRefused lasso) is e = absurd cc
accepted f TooManyStates is e = absurd cc

-- a check of the upgraded text
text_accepted : (g : ProofFile) (text : List ℕ) → IsVerdict g Accepted → text ≡ file_text g → length text ≤ input_limit
    → (line : List ℕ) × IsAnswer (Some Check) text status.Success line
text_accepted g text is e short = (
  nodes_text g.program g.nodes,
  inr (
    short,
    Ok g,
    subst (λ bytes. IsRead bytes (Ok g)) (sym e) (text_is_read g),
    (Accepted, is, refl, refl),
  ),
)

check_accepts : (r : Result ProofFile ReadFault) (f g : ProofFile) (line text : List ℕ) → AreAlike AreSame r (Ok f)
    → IsReadAnswer r status.Success line → IsUpgrade f g → text ≡ file_text g → length text ≤ input_limit
    → (other : List ℕ) × IsAnswer (Some Check) text status.Success other
check_accepts (Ok e) f g line text same answer up is short =
    text_accepted g text (accepted_again f g up (same_verdict e f same Accepted
    (accepted e answer.0 answer.1 answer.2))) is short
check_accepts (Err fault) f g line text same answer up is short = absurd same

checked_too : (input text : List ℕ) (r : Result ProofFile ReadFault) → IsRead input r
    → IsUpgradeAnswer r status.Success text → IsAcceptedToo input text
checked_too input text (Ok f) is answer line (inl long) short = absurd
    (let e : status.Success ≡ status.Limit = long.1 in cc)
checked_too input text (Ok f) is answer line (inr checked) short =
    check_accepts checked.1 f answer.0 line text (one_file_reading input checked.1 (Ok f) checked.2 is)
    checked.3 answer.1 answer.3 short
checked_too input text (Err fault) is answer line check short = absurd (fault_fails fault answer.0)

-- what an upgrade writes, a check accepts where it accepts the input
task_accepted : (input text : List ℕ) → IsAnswer (Some Upgrade) input status.Success text → IsAcceptedToo input text
task_accepted input text (inl long) = absurd (let e : status.Success ≡ status.Limit = long.1 in cc)
task_accepted input text (inr upgraded) = checked_too input text upgraded.1 upgraded.2 upgraded.3

answer_accepted : (task : Option Task) (told old new : Option (List ℕ)) (s : Status) (text : List ℕ)
    → task ≡ Some Upgrade → Answers task told s text → s ≡ status.Success → Appends old new text
    → WroteUpgrade told old new
answer_accepted task told old new s text is answer e wrote = (
  text,
  wrote,
  (
    answer.0,
    answer.1,
    task_accepted answer.0 text
        (subst (λ t. IsAnswer t answer.0 status.Success text) is
        (subst (λ s. IsAnswer task answer.0 s text) e answer.2)),
  ),
)

-- an upgrade of a file is answered with success
read_succeeds : (r : Result ProofFile ReadFault) (f : ProofFile) (s : Status) (text : List ℕ)
    → AreAlike AreSame r (Ok f) → IsUpgradeAnswer r s text → s ≡ status.Success
read_succeeds (Ok e) f s text same answer = answer.2
read_succeeds (Err fault) f s text same answer = absurd same

task_succeeds : (input : List ℕ) (f : ProofFile) (s : Status) (text : List ℕ) → length input ≤ input_limit
    → IsRead input (Ok f) → IsAnswer (Some Upgrade) input s text → s ≡ status.Success
task_succeeds input f s text short is (inl long) = absurd (omega (arith, long.0))
task_succeeds input f s text short is (inr upgraded) =
    read_succeeds upgraded.1 f s text (one_file_reading input upgraded.1 (Ok f) upgraded.2 is) upgraded.3

pub upgrade_succeeds : (task : Option Task) (told : Option (List ℕ)) (input : List ℕ) (f : ProofFile) (s : Status)
    (text : List ℕ) → task ≡ Some Upgrade → told ≡ Some input → length input ≤ input_limit → IsRead input (Ok f)
    → Answers task told s text → s ≡ status.Success
upgrade_succeeds task told input f s text is e short read answer =
    task_succeeds input f s text short read (subst (λ t. IsAnswer t input s text) is
    (answer_for task told input s text e answer))

-- an upgrade that ended with success wrote it
pub success_upgraded : (task : Option Task) (told old new : Option (List ℕ)) (s : Status)
    (wrote : is_answer s ≡ true → WroteAnswer task told old new s) → task ≡ Some Upgrade → s ≡ status.Success
    → WroteUpgrade told old new
success_upgraded task told old new s wrote is e =
    let written = wrote (ap is_answer e) in answer_accepted task told old new s written.0 is written.1 e written.2
