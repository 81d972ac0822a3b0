-- The answer to a task, and what is written of it.
use Rattle.std.specs.Prelude.{◌≡◌, ◌+◌, ◌*◌, ◌≤◌, ℕ, List, length, Option, Some, None, Result, Ok, Err}
use Rattle.std.specs.Io.KnownBytes.{Appends}
use Rattle.cyc_runs.specs.Texts.{states_limit_text, derivations_limit_text, not_found_text, ring_text}
use Rattle.cyc_lex.specs.declared.fault.ReadFault.{ReadFault}
use Rattle.proof_file.specs.declared.file.ProofFile.{ProofFile}
use Rattle.cyc_runs.specs.declared.endings.Status.{Status}
use Rattle.cyc_runs.specs.declared.endings.Status.TheVariants as status
use Rattle.cyc_runs.specs.Faults.{IsFaultAnswer}
use Rattle.cyc_runs.specs.Runs.{Answering, AnswersTold, IsAnswerOf, IsTold, input_limit}
use Rattle.cyc_runs.specs.Runs as runs
use Rattle.check_answers.specs.Alike.{AreOneCheck}
use Rattle.derivations.specs.declared.search.TheConstants.{DERIVATION_LIMIT}
use Rattle.cyc_words.specs.declared.tasks.Task.{Task}
use Rattle.cyc_words.specs.declared.tasks.Task.TheVariants.{Check, Prove, Ring, Upgrade, Sat, Model, Disprove}
use Rattle.cyc_words.specs.declared.tasks.Task.TheVariants.{FirstOrderProve, FirstOrderCheck}
use Rattle.cyc_words.specs.Words.{usage_text}
use Rattle.command_answers.specs.Answers.{IsAsked, IsPossible}
use Rattle.model_file.specs.declared.file.Model as formats
use Rattle.model_file.specs.Reading as models
use Rattle.command_answers.specs.ModelAnswers.{IsModelled, IsSatisfying}
use Rattle.command_answers.specs.DisproveAnswers.{HasNoCounter, IsDisproved, IsRefuted}
use Rattle.fo_formula.specs.declared.nodes.FoFile.{FoFile}
use Rattle.fo_formula.specs.Validity.{SequentHolds}
use Rattle.fo_file.specs.declared.values.problem.FoProblem.{FoProblem}
use Rattle.fo_file.specs.Reading as first_order
use Rattle.fo_logic.specs.Verdicts as first_order_verdicts
use Rattle.command_answers.specs.FirstOrderAnswers.{IsFirstOrderChecked}
use Rattle.command_answers.specs.Searches.{IsFirstOrderSearched}
use Rattle.heap_formula.specs.Judgements.{JudgementHolds}
use Rattle.derivations.specs.System.{search_of}
use Rattle.formula_reader.specs.declared.problem.Problem.{Problem}
use Rattle.formula_reader.specs.Reading as problems
use Rattle.proof_file.specs.Upgrades.{IsUpgrade}
use Rattle.proof_file.specs.Written.{text_of_file}
use Rattle.proof_search.specs.declared.prover.Proved.{Proved}
use Rattle.proof_search.specs.declared.prover.Proved.TheVariants.{Found, NotFound, TooManyDerivations}
use Rattle.proof_search.specs.declared.prover.Proved.TheVariants as answers
use Rattle.proof_search.specs.Outcomes.{outcome_of, search_for, IsProved}
use Rattle.proof_file.specs.Reading.{IsRead}
use Rattle.proof_check.specs.Verdicts.{IsCorrect, RootHolds}
use Rattle.check_answers.specs.Answers.{IsChecked, ToldFileOf}

-- ---- files as text

-- what is written of a file
abbrev pub file_text : ProofFile → List ℕ
file_text f = text_of_file f.version f.defs.list f.program f.nodes

-- ---- the answers of the prover

-- the count of partial derivations at one depth at which a search stops
abbrev pub derivation_limit : ℕ
derivation_limit = DERIVATION_LIMIT

-- how a search with this answer ends
abbrev pub proved_status : Proved → Status
proved_status (Found f) = status.Success
proved_status NotFound = status.NotFound
proved_status TooManyDerivations = status.Limit
proved_status answers.TooManyStates = status.Limit

-- what is written of it: the proof, or a line
abbrev pub proved_text : ℕ → Proved → List ℕ
proved_text depth (Found f) = file_text f
proved_text depth NotFound = not_found_text depth
proved_text depth TooManyDerivations = derivations_limit_text
proved_text depth answers.TooManyStates = states_limit_text

-- a search within the depth for a proof of the problem comes to this answer
abbrev pub IsSearch : ℕ → Problem → Proved → Type 0
IsSearch depth problem proved = (outcome_of proved ≡ search_of (search_for problem) derivation_limit depth)
    × IsProved problem proved

-- a search that read its input so is answered so
abbrev pub IsSearchAnswer : ℕ → Result Problem ReadFault → Status → List ℕ → Type 0
IsSearchAnswer depth (Ok problem) ending text =
    (proved : Proved) × IsSearch depth problem proved × (ending ≡ proved_status proved)
    × (text ≡ proved_text depth proved)
IsSearchAnswer depth (Err fault) ending text = IsFaultAnswer fault ending text

-- the input is read as a problem, and answered so
abbrev pub IsSearched : ℕ → List ℕ → Status → List ℕ → Type 0
IsSearched depth input ending text =
    (length input ≤ input_limit) × (read : Result Problem ReadFault) × problems.IsRead input read
    × IsSearchAnswer depth read ending text

-- ---- the answers of the upgrade

-- a file that was read is written as one of version 2, whether it is correct or not
abbrev pub IsUpgradeAnswer : Result ProofFile ReadFault → Status → List ℕ → Type 0
IsUpgradeAnswer (Ok file) ending text =
    (upgraded : ProofFile) × IsUpgrade file upgraded × (ending ≡ status.Success) × (text ≡ file_text upgraded)
IsUpgradeAnswer (Err fault) ending text = IsFaultAnswer fault ending text

-- the input is read, and answered so
abbrev pub IsUpgraded : List ℕ → Status → List ℕ → Type 0
IsUpgraded input ending text =
    (length input ≤ input_limit) × (read : Result ProofFile ReadFault) × IsRead input read
    × IsUpgradeAnswer read ending text

-- ---- answers to the words

-- the task, with this input, is answered so; a ring's proof has eight nodes for each predicate, and the one link
abbrev pub IsAnswer : Option Task → Answering
IsAnswer (Some Check) = IsAnswerOf IsChecked
IsAnswer (Some (Prove depth)) = IsAnswerOf (IsSearched depth)
IsAnswer (Some Upgrade) = IsAnswerOf IsUpgraded
IsAnswer (Some Sat) = IsAnswerOf IsAsked
IsAnswer (Some Model) = IsAnswerOf IsModelled
IsAnswer (Some (Disprove cells)) = IsAnswerOf (IsDisproved cells)
IsAnswer (Some (FirstOrderProve depth)) = IsAnswerOf (IsFirstOrderSearched depth)
IsAnswer (Some FirstOrderCheck) = IsAnswerOf IsFirstOrderChecked
IsAnswer (Some (Ring k)) = λ input ending text. (ending ≡ status.Success) × (text ≡ ring_text k (8 * k + 1) 1)
IsAnswer None = λ input ending text. (ending ≡ status.Usage) × (text ≡ usage_text)

-- the texts are one; of two checks each may name another path that is refused
abbrev pub AreOneText : Option Task → List ℕ → List ℕ → Type 0
AreOneText (Some Check) text other = AreOneCheck text other
AreOneText (Some FirstOrderCheck) text other = AreOneCheck text other
AreOneText _ text other = text ≡ other

-- ---- answers over what a source tells

-- for some input, which is the one that was told, the task is answered so
abbrev pub Answers : Option Task → Option (List ℕ) → Status → List ℕ → Type 0
Answers task = AnswersTold (IsAnswer task)

-- the whole line of the answer was written
abbrev pub WroteAnswer : Option Task → Option (List ℕ) → Option (List ℕ) → Option (List ℕ) → Status → Type 0
WroteAnswer task = runs.WroteAnswer (IsAnswer task)

-- a proper prefix of the line of an answer was written
abbrev pub WrotePart : Option Task → Option (List ℕ) → Option (List ℕ) → Option (List ℕ) → Type 0
WrotePart task = runs.WrotePart (IsAnswer task)

-- some input, which is the one that was told, spells a model of which this is true
abbrev pub ToldModelOf : (formats.Model → Type 0) → Option (List ℕ) → Type 0
ToldModelOf Has told = (input : List ℕ) × IsTold told input
    × ((model : formats.Model) × models.IsRead input (Ok model) × Has model)

-- the same of a first-order proof
abbrev pub ToldFirstOrderOf : (FoFile → Type 0) → Option (List ℕ) → Type 0
ToldFirstOrderOf Has told = (input : List ℕ) × IsTold told input
    × ((file : FoFile) × first_order.IsRead input (Ok file) × Has file)

-- some input, which is the one that was told, spells a first-order problem whose goal holds in every valuation
abbrev pub ToldQuestion : Option (List ℕ) → Type 0
ToldQuestion told =
    (input : List ℕ) × IsTold told input × ((problem : FoProblem) × first_order.IsReadProblem input (Ok problem)
    × SequentHolds problem.theory problem.goal)

-- some input, which is the one that was told, spells a problem of which this is true
abbrev pub ToldOf : (Problem → Type 0) → Option (List ℕ) → Type 0
ToldOf Has told = (input : List ℕ) × IsTold told input
    × ((problem : Problem) × problems.IsRead input (Ok problem) × Has problem)

-- its goal holds
abbrev pub ToldProvable : Option (List ℕ) → Type 0
ToldProvable told = ToldOf (λ problem. JudgementHolds problem.defs.list problem.program problem.goal) told

-- some input, which is the one that was told, spells a file and is not too long
abbrev pub ToldFile : Option (List ℕ) → Type 0
ToldFile told =
    (input : List ℕ) × IsTold told input × (length input ≤ input_limit) × ((file : ProofFile) × IsRead input (Ok file))

-- what the success of a task says of the input; a ring has none
abbrev pub IsHeadline : Option Task → Option (List ℕ) → Type 0
IsHeadline (Some Check) told = ToldFileOf RootHolds told
IsHeadline (Some (Prove depth)) told = ToldProvable told
IsHeadline (Some Upgrade) told = ToldFile told
IsHeadline (Some Sat) told = ToldOf IsPossible told
IsHeadline (Some Model) told = ToldModelOf IsSatisfying told
IsHeadline (Some (Disprove cells)) told = ToldOf (IsRefuted cells) told
IsHeadline (Some (FirstOrderProve depth)) told = ToldQuestion told
IsHeadline (Some FirstOrderCheck) told = ToldFirstOrderOf first_order_verdicts.RootHolds told
IsHeadline (Some (Ring k)) told = Unit {0}
IsHeadline None told = ⊥

-- what the refusal of a task says of the input; the other tasks refuse nothing
abbrev pub IsRefusal : Option Task → Option (List ℕ) → Type 0
IsRefusal (Some Check) told = ToldFileOf (λ file. ¬ IsCorrect file) told
IsRefusal (Some Sat) told = ToldOf (λ problem. ¬ IsPossible problem) told
IsRefusal (Some Model) told = ToldModelOf (λ model. ¬ IsSatisfying model) told
IsRefusal (Some FirstOrderCheck) told = ToldFirstOrderOf (λ file. ¬ first_order_verdicts.IsCorrect file) told
IsRefusal _ told = ⊥

-- a text was written that a check accepts, where it is no longer than an input may be
abbrev pub WroteProof : Option (List ℕ) → Option (List ℕ) → Type 0
WroteProof old new =
    (text : List ℕ) × Appends old new text × (length text ≤ input_limit
    → (line : List ℕ) × IsAnswer (Some Check) text status.Success line)

-- the same of a first-order proof
abbrev pub WroteFirstOrderProof : Option (List ℕ) → Option (List ℕ) → Type 0
WroteFirstOrderProof old new =
    (text : List ℕ) × Appends old new text
    × (length text ≤ input_limit → (line : List ℕ) × IsAnswer (Some FirstOrderCheck) text status.Success line)

-- where a check accepts the told input, it accepts this text too, if it is no longer than an input may be
abbrev pub IsAcceptedToo : List ℕ → List ℕ → Type 0
IsAcceptedToo input text =
    (line : List ℕ) → IsAnswer (Some Check) input status.Success line → length text ≤ input_limit
    → (other : List ℕ) × IsAnswer (Some Check) text status.Success other

-- a text was written that is a model of its own formula, where it is no longer than an input may be
abbrev pub WroteModel : Option (List ℕ) → Option (List ℕ) → Type 0
WroteModel old new =
    (text : List ℕ) × Appends old new text × (length text ≤ input_limit
    → (line : List ℕ) × IsAnswer (Some Model) text status.Success line)

-- the entailment that was told has no counter-model of this size
abbrev pub IsUnrefuted : ℕ → Option (List ℕ) → Type 0
IsUnrefuted cells told = ToldOf (HasNoCounter cells) told

-- a text was written that a check accepts where it accepts the input, which is the one that was told
abbrev pub WroteUpgrade : Option (List ℕ) → Option (List ℕ) → Option (List ℕ) → Type 0
WroteUpgrade told old new =
    (text : List ℕ) × Appends old new text × ((input : List ℕ) × IsTold told input × IsAcceptedToo input text)
