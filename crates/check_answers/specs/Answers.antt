-- What is answered to a proof file, and to words, and what an answer says of what was told.
use Rattle.std.specs.Prelude.{◌≡◌, ◌+◌, ◌≤◌, ℕ, zero, suc, List, [], ◌∷◌, length, codes, count_by, Option, Result, Ok}
use Rattle.std.specs.Prelude.{Err, Bool}
use Rattle.cyc_runs.specs.Texts.{accepted_text, node_refused_text, path_refused_text, states_limit_text}
use Rattle.cyc_lex.specs.declared.fault.ReadFault.{ReadFault}
use Rattle.heap_formula.specs.declared.commands.Command.{Command}
use Rattle.proof_file.specs.FileNodes.{FileNode}
use Rattle.proof_file.specs.declared.file.ProofFile.{ProofFile}
use Rattle.proof_file.specs.Links.{is_link}
use Rattle.proof_file.specs.Reading.{IsRead}
use Rattle.proof_check.specs.Verdicts.{Verdict}
use Rattle.logics.specs.declared.verdict.Verdict.TheVariants.{Accepted, RuleRefused, PathRefused, TooManyStates}
use Rattle.proof_check.specs.Verdicts.{IsVerdict}
use Rattle.file_reader.specs.Stages.{Parts, FileFrom}
use Rattle.file_reader.specs.Pieces.{bytes_fed}
use Rattle.cyc_runs.specs.declared.endings.Status.{Status}
use Rattle.cyc_runs.specs.declared.endings.Status.TheVariants as status
use Rattle.cyc_runs.specs.Faults.{IsFaultAnswer}
use Rattle.cyc_runs.specs.Runs.{Answering, IsAnswerOf, IsTold, input_limit}

-- the node is a link
abbrev pub is_link_node : FileNode → Bool
is_link_node node = is_link node.reason

-- how many of the nodes are links
abbrev pub link_count : List FileNode → ℕ
link_count nodes = count_by is_link_node nodes

-- the line for a proof of these nodes on the program that is right
abbrev pub nodes_text : List Command → List FileNode → List ℕ
nodes_text lines [] = []
nodes_text lines (root ∷ nodes) =
    accepted_text lines root.judgement (length (root ∷ nodes)) (link_count (root ∷ nodes))

-- how a check with this verdict ends
abbrev pub verdict_status : Verdict → Status
verdict_status Accepted = status.Success
verdict_status (RuleRefused node fault) = status.Refused
verdict_status (PathRefused lasso) = status.Refused
verdict_status TooManyStates = status.Limit

-- the line for a verdict on the file
abbrev pub verdict_text : ProofFile → Verdict → List ℕ
verdict_text file Accepted = nodes_text file.program file.nodes
verdict_text file (RuleRefused node fault) = node_refused_text node fault
verdict_text file (PathRefused lasso) = path_refused_text lasso
verdict_text file TooManyStates = states_limit_text

-- a check that read its input so is answered so; out of memory is no fault of the input
abbrev pub IsReadAnswer : Result ProofFile ReadFault → Status → List ℕ → Type 0
IsReadAnswer (Ok file) ending text =
    (verdict : Verdict) × IsVerdict file verdict × (ending ≡ verdict_status verdict)
    × (text ≡ verdict_text file verdict)
IsReadAnswer (Err fault) ending text = IsFaultAnswer fault ending text

-- the input is read, and answered so
abbrev pub IsChecked : Answering
IsChecked input ending text =
    (length input ≤ input_limit) × (read : Result ProofFile ReadFault) × IsRead input read
    × IsReadAnswer read ending text

-- the text that a reader, which holds this of it, reads with this rest is answered so
abbrev pub IsCheckedFrom : Parts → Answering
IsCheckedFrom held rest ending text =
    (bytes_fed held + length rest ≤ input_limit) × (read : Result ProofFile ReadFault) × FileFrom held rest read
    × IsReadAnswer read ending text

-- some input, which is the one that was told, spells a file of which this is true
abbrev pub ToldFileOf : (ProofFile → Type 0) → Option (List ℕ) → Type 0
ToldFileOf Has told = (input : List ℕ) × IsTold told input × ((file : ProofFile) × IsRead input (Ok file) × Has file)

-- ---- the checker alone

-- the line that says which words have a meaning: none
abbrev pub usage_text : List ℕ
usage_text = codes "usage: check\n"

-- with no words the input is checked; any word gives the usage
abbrev pub IsAnswer : ℕ → Answering
IsAnswer zero = IsAnswerOf IsChecked
IsAnswer (suc words) = λ input ending text. (ending ≡ status.Usage) × (text ≡ usage_text)
