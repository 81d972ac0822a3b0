-- What is answered to the question whether a first-order problem has a proof.
use Rattle.std.specs.Prelude.{◌≡◌, ◌≤◌, ℕ, List, length, Result, Ok, Err}
use Rattle.cyc_lex.specs.declared.fault.ReadFault.{ReadFault}
use Rattle.cyc_runs.specs.declared.endings.Status.{Status}
use Rattle.cyc_runs.specs.declared.endings.Status.TheVariants as status
use Rattle.cyc_runs.specs.Faults.{IsFaultAnswer}
use Rattle.cyc_runs.specs.Runs.{input_limit}
use Rattle.cyc_runs.specs.Texts.{not_found_text, derivations_limit_text, states_limit_text}
use Rattle.derivations.specs.declared.search.TheConstants.{DERIVATION_LIMIT}
use Rattle.derivations.specs.System.{search_of}
use Rattle.fo_file.specs.declared.values.problem.FoProblem.{FoProblem}
use Rattle.fo_file.specs.Reading.{text_of_file, IsReadProblem, IsWritable}
use Rattle.fo_search.specs.declared.prover.FoProved.{FoProved}
use Rattle.fo_search.specs.declared.prover.FoProved.TheVariants.{Found, NotFound, TooManyDerivations, TooManyStates}
use Rattle.fo_search.specs.Outcomes.{search_for, outcome_of, IsProved}

-- how a search with this answer ends
abbrev pub proved_status : FoProved → Status
proved_status (Found f) = status.Success
proved_status NotFound = status.NotFound
proved_status TooManyDerivations = status.Limit
proved_status TooManyStates = status.Limit

-- what is written of it: the proof, or a line
abbrev pub proved_text : ℕ → FoProved → List ℕ
proved_text depth (Found f) = text_of_file f
proved_text depth NotFound = not_found_text depth
proved_text depth TooManyDerivations = derivations_limit_text
proved_text depth TooManyStates = states_limit_text

-- a proof that is found has a text
abbrev pub HasText : FoProved → Type 0
HasText (Found f) = IsWritable f
HasText _ = Unit {0}

-- a search within the depth for a proof of the problem comes to this answer
pub record IsSearch (depth : ℕ) (problem : FoProblem) (proved : FoProved) : Type 0 where
  pub outcome : outcome_of proved ≡ search_of (search_for problem) DERIVATION_LIMIT depth
  pub proof : IsProved problem proved
  pub text : HasText proved

-- the answer of a search is said
abbrev pub IsSearchSaid : ℕ → FoProblem → Status → List ℕ → Type 0
IsSearchSaid depth problem ending text =
    (proved : FoProved) × IsSearch depth problem proved × (ending ≡ proved_status proved)
    × (text ≡ proved_text depth proved)

-- a search that read its input so is answered so
abbrev pub IsSearchAnswer : ℕ → Result FoProblem ReadFault → Status → List ℕ → Type 0
IsSearchAnswer depth (Ok problem) ending text = IsSearchSaid depth problem ending text
IsSearchAnswer depth (Err fault) ending text = IsFaultAnswer fault ending text

-- the input is read as a first-order problem, and answered so
abbrev pub IsFirstOrderSearched : ℕ → List ℕ → Status → List ℕ → Type 0
IsFirstOrderSearched depth input ending text =
    (length input ≤ input_limit) × (read : Result FoProblem ReadFault) × IsReadProblem input read
    × IsSearchAnswer depth read ending text
