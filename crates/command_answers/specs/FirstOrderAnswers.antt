-- What is answered to the question whether a first-order proof is correct.
use Rattle.std.specs.Prelude.{◌≡◌, ◌≤◌, ℕ, List, ◌++◌, length, count_by, codes, decimal, Bool, true, false, Result, Ok}
use Rattle.std.specs.Prelude.{Err}
use Rattle.cyc_lex.specs.declared.fault.ReadFault.{ReadFault}
use Rattle.cyc_runs.specs.declared.endings.Status.{Status}
use Rattle.cyc_runs.specs.declared.endings.Status.TheVariants as status
use Rattle.cyc_runs.specs.Faults.{IsFaultAnswer}
use Rattle.cyc_runs.specs.Runs.{Answering, input_limit}
use Rattle.cyc_runs.specs.Texts.{number_text, path_refused_text, states_limit_text}
use Rattle.fo_formula.specs.declared.nodes.FoFile.{FoFile}
use Rattle.fo_formula.specs.Nodes.{FoNode}
use Rattle.fo_formula.specs.declared.nodes.FoReason.{FoReason}
use Rattle.fo_formula.specs.declared.nodes.FoReason.TheVariants.{Rule, Link}
use Rattle.fo_formula.specs.declared.table.faults.FoFault.{FoFault}
use Rattle.logics.specs.declared.verdict.Verdict.TheVariants.{Accepted, RuleRefused, PathRefused, TooManyStates}
use Rattle.fo_logic.specs.Verdicts.{FoVerdict, IsVerdict}
use Rattle.fo_file.specs.Reading.{IsRead}
use Rattle.command_answers.specs.Names.{fault_name_of, fault_number_of}

-- ---- the lines

abbrev pub is_link : FoReason → Bool
is_link (Rule rule) = false
is_link (Link link) = true

-- how many of the nodes are links
abbrev pub link_count : List FoNode → ℕ
link_count nodes = count_by (λ node. is_link node.reason) nodes

-- a proof is right, and has so many nodes, of which so many are links
abbrev pub accepted_text : ℕ → ℕ → List ℕ
accepted_text nodes links =
    codes "accepted first-order nodes " ++ decimal nodes ++ codes " links " ++ decimal links ++ codes "\n"

-- a node has this fault
abbrev pub node_refused_text : ℕ → FoFault → List ℕ
node_refused_text node fault =
    codes "refused node " ++ decimal node ++ codes " " ++ fault_name_of fault ++ number_text (fault_number_of fault)
    ++ codes "\n"

-- ---- the answers

-- how a check with this verdict ends
abbrev pub verdict_status : FoVerdict → Status
verdict_status Accepted = status.Success
verdict_status (RuleRefused node fault) = status.Refused
verdict_status (PathRefused lasso) = status.Refused
verdict_status TooManyStates = status.Limit

-- the line for a verdict on these nodes
abbrev pub verdict_text : List FoNode → FoVerdict → List ℕ
verdict_text nodes Accepted = accepted_text (length nodes) (link_count nodes)
verdict_text nodes (RuleRefused node fault) = node_refused_text node fault
verdict_text nodes (PathRefused lasso) = path_refused_text lasso
verdict_text nodes TooManyStates = states_limit_text

-- the verdict that is true of a proof is said
abbrev pub IsSaid : FoFile → Status → List ℕ → Type 0
IsSaid file ending text =
    (verdict : FoVerdict) × IsVerdict file verdict × (ending ≡ verdict_status verdict)
    × (text ≡ verdict_text file.nodes verdict)

-- a check that read its input so is answered so
abbrev pub IsReadAnswer : Result FoFile ReadFault → Status → List ℕ → Type 0
IsReadAnswer (Ok file) ending text = IsSaid file ending text
IsReadAnswer (Err fault) ending text = IsFaultAnswer fault ending text

-- the input is read as a first-order proof, and answered so
abbrev pub IsFirstOrderChecked : Answering
IsFirstOrderChecked input ending text =
    (length input ≤ input_limit) × (read : Result FoFile ReadFault) × IsRead input read × IsReadAnswer read ending text
