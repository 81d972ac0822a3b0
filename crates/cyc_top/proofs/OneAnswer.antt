-- A task has one answer for each input: one status, and one text but for the lasso that a check names.
use Rattle.std.proofs.Common.{◌≡◌, ℕ, List, sym, ap, ◌∙◌, inl, Option, Some, None}
use Rattle.std.specs.Prelude.{Result, Ok, Err}
use Rattle.cyc_lex.specs.declared.fault.ReadFault.{ReadFault}
use Rattle.formula_reader.specs.declared.problem.Problem.{Problem}
use Rattle.formula_reader.specs.Reading as problems
use Rattle.proof_file.specs.declared.file.ProofFile.{ProofFile}
use Rattle.proof_file.specs.Reading.{AreSame}
use Rattle.proof_file.specs.Upgrades.{IsUpgrade, upgraded}
use Rattle.proof_file.specs.Written.{text_of_file}
use Rattle.cyc_words.specs.declared.tasks.Task.{Task}
use Rattle.cyc_words.specs.declared.tasks.Task.TheVariants.{Check, Prove, Ring, Upgrade, Sat, Model, Disprove}
use Rattle.cyc_words.specs.declared.tasks.Task.TheVariants.{FirstOrderProve, FirstOrderCheck}
use Rattle.cyc_runs.specs.declared.endings.Status.{Status}
use Rattle.check_answers.specs.Alike.{AreAlike, AreOneCheck}
use Rattle.check_answers.proofs.OneAnswer.{one_of}
use Rattle.check_answers.proofs.OneFault.{one_fault_answer}
use Rattle.check_answers.proofs.Files.{one_file_reading}
use Rattle.command_answers.proofs.Readings.{one_problem_reading}
use Rattle.command_answers.specs.Answers.{IsAsked}
use Rattle.command_answers.proofs.OneAnswer as sat
use Rattle.command_answers.specs.ModelAnswers.{IsModelled}
use Rattle.command_answers.proofs.ModelOneAnswer as models
use Rattle.command_answers.specs.DisproveAnswers.{IsDisproved}
use Rattle.command_answers.proofs.DisproveOneAnswer as disproofs
use Rattle.command_answers.specs.FirstOrderAnswers.{IsFirstOrderChecked}
use Rattle.command_answers.specs.Searches.{IsFirstOrderSearched}
use Rattle.command_answers.proofs.FirstOrderOneAnswer as first_order
use Rattle.command_answers.proofs.OneSearch as first_order_search
use Rattle.check_answers.proofs.Checks.{one_check}
use Rattle.cyc_top.specs.Answers.{AreOneText, IsAnswer, IsSearchAnswer, IsSearched, IsUpgradeAnswer, IsUpgraded}
use Rattle.cyc_top.specs.Answers.{file_text}
use Rattle.cyc_top.proofs.OneSearch.{one_search}

-- ---- searches

one_read_search : (depth : ℕ) (r q : Result Problem ReadFault) (s t : Status) (xs ys : List ℕ)
    → AreAlike problems.AreSame r q → IsSearchAnswer depth r s xs → IsSearchAnswer depth q t ys → (s ≡ t) × (xs ≡ ys)
one_read_search depth (Ok p) (Ok q) s t xs ys same first second =
    let one = one_search depth p q first.0 second.0 same first.1 second.1 in
    (first.2 ∙ one.0 ∙ sym second.2, first.3 ∙ one.1 ∙ sym second.3)
one_read_search depth (Err a) (Err b) s t xs ys same first second = one_fault_answer a b s t xs ys same first second
one_read_search depth (Ok p) (Err b) s t xs ys same first second = absurd same
one_read_search depth (Err a) (Ok q) s t xs ys same first second = absurd same

one_searched : (depth : ℕ) (input : List ℕ) (s t : Status) (xs ys : List ℕ) → IsSearched depth input s xs
    → IsSearched depth input t ys → (s ≡ t) × (xs ≡ ys)
one_searched depth input s t xs ys first second =
    one_read_search depth first.1 second.1 s t xs ys (one_problem_reading input first.1 second.1 first.2 second.2)
    first.3 second.3

-- ---- upgrades

-- the upgrades of what was read are one
one_upgrade : (f g u v : ProofFile) → AreSame f g → IsUpgrade f u → IsUpgrade g v → file_text u ≡ file_text v
one_upgrade f g u v same first second =
    let version : u.version ≡ v.version = first.version ∙ ap upgraded same.version ∙ sym second.version in
    let definitions = first.definitions ∙ same.definitions ∙ sym second.definitions in
    let program = first.program ∙ same.program ∙ sym second.program in
    let nodes = first.nodes ∙ same.nodes ∙ sym second.nodes in
    λ i. text_of_file (version i) (definitions i) (program i) (nodes i)

one_read_upgrade : (r q : Result ProofFile ReadFault) (s t : Status) (xs ys : List ℕ) → AreAlike AreSame r q
    → IsUpgradeAnswer r s xs → IsUpgradeAnswer q t ys → (s ≡ t) × (xs ≡ ys)
one_read_upgrade (Ok f) (Ok g) s t xs ys same first second =
    (first.2 ∙ sym second.2, first.3 ∙ one_upgrade f g first.0 second.0 same first.1 second.1 ∙ sym second.3)
one_read_upgrade (Err a) (Err b) s t xs ys same first second = one_fault_answer a b s t xs ys same first second
one_read_upgrade (Ok f) (Err b) s t xs ys same first second = absurd same
one_read_upgrade (Err a) (Ok g) s t xs ys same first second = absurd same

one_upgraded : (input : List ℕ) (s t : Status) (xs ys : List ℕ) → IsUpgraded input s xs → IsUpgraded input t ys
    → (s ≡ t) × (xs ≡ ys)
one_upgraded input s t xs ys first second =
    one_read_upgrade first.1 second.1 s t xs ys (one_file_reading input first.1 second.1 first.2 second.2)
    first.3 second.3

-- ---- tasks

-- a task has one answer for an input
pub one_answer : (task : Option Task) (input : List ℕ) (s t : Status) (xs ys : List ℕ) → IsAnswer task input s xs
    → IsAnswer task input t ys → (s ≡ t) × AreOneText task xs ys
one_answer None input s t xs ys first second = (first.0 ∙ sym second.0, first.1 ∙ sym second.1)
one_answer (Some Check) input s t xs ys first second = one_check input s t xs ys first second
one_answer (Some (Prove depth)) input s t xs ys first second =
    one_of (IsSearched depth) (λ zs us. zs ≡ us) (λ zs us e. e) (one_searched depth) (λ i u zs is. is.0)
    input s t xs ys first second
one_answer (Some Upgrade) input s t xs ys first second =
    one_of IsUpgraded (λ zs us. zs ≡ us) (λ zs us e. e) one_upgraded (λ i u zs is. is.0) input s t xs ys first second
one_answer (Some Sat) input s t xs ys first second =
    one_of IsAsked (λ zs us. zs ≡ us) (λ zs us e. e) sat.one_answer (λ i u zs is. is.0) input s t xs ys first second
one_answer (Some Model) input s t xs ys first second =
    one_of IsModelled (λ zs us. zs ≡ us) (λ zs us e. e)
    models.one_answer models.model_short input s t xs ys first second
one_answer (Some (Disprove cells)) input s t xs ys first second =
    one_of (IsDisproved cells) (λ zs us. zs ≡ us) (λ zs us e. e) (disproofs.one_answer cells)
    (disproofs.disproved_short cells) input s t xs ys first second
one_answer (Some (FirstOrderProve depth)) input s t xs ys first second =
    one_of (IsFirstOrderSearched depth) (λ zs us. zs ≡ us) (λ zs us e. e) (first_order_search.one_search depth)
    (first_order_search.search_short depth) input s t xs ys first second
one_answer (Some FirstOrderCheck) input s t xs ys first second =
    one_of IsFirstOrderChecked AreOneCheck (λ zs us e. inl e)
    first_order.one_answer first_order.first_order_short input s t xs ys first second
one_answer (Some (Ring k)) input s t xs ys first second = (first.0 ∙ sym second.0, first.1 ∙ sym second.1)
