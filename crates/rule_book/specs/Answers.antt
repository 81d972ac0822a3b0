-- What a reason leaves to be shown, or its first fault.
use Rattle.std.specs.Prelude.{ℕ, List, [], ◌∷◌, Option, Some, None, Ok, Err, slice_get, slice_index}
use Rattle.std.specs.Option.{option_map}
use Rattle.cyc_basics.specs.declared.limits.Limits.{Limits}
use Rattle.heap_formula.specs.declared.commands.Command.{Command}
use Rattle.heap_formula.specs.declared.judgements.Judgement.{Judgement}
use Rattle.heap_formula.specs.declared.judgements.Premise.{Premise}
use Rattle.heap_formula.specs.declared.proof_rules.Link.{Link}
use Rattle.heap_formula.specs.declared.proof_rules.Reason.{Reason}
use Rattle.heap_formula.specs.declared.proof_rules.Reason.TheVariants.{Step, Back}
use Rattle.heap_formula.specs.declared.proof_rules.RuleFault.{RuleFault}
use Rattle.heap_formula.specs.declared.proof_rules.RuleFault.TheVariants.{NoSuchNode}
use Rattle.heap_formula.specs.Definitions.{Definition}
use Rattle.rule_table.specs.Answer.{Answer}
use Rattle.rule_table.specs.LinkTable.{link_premise}
use Rattle.rule_table.specs.RuleBook.{rule_answer, program_link_fault}

-- the entry of a map for a place, 0 past the end
abbrev pub entry_of : List ℕ → ℕ → ℕ
entry_of entries k = slice_index entries k

-- the premise where there is no fault
abbrev pub unless_fault : Option RuleFault → Premise → Answer
unless_fault None premise = Ok (premise ∷ [])
unless_fault (Some f) premise = Err f

-- the companion, if the link names one
abbrev pub link_answer : List Command → Judgement → Link → Option Judgement → Answer
link_answer lines bud link None = Err NoSuchNode
link_answer lines bud link (Some companion) =
    unless_fault (program_link_fault lines bud companion link) (link_premise companion link)

-- the premises of a rule, or the companion of a link
abbrev pub reason_answer : Limits → List Definition → List Command → Judgement → Reason → Option Judgement → Answer
reason_answer most ds lines j (Step rule) companion = rule_answer most ds lines j rule
reason_answer most ds lines j (Back link) companion = link_answer lines j link companion

-- the judgement of the node that a link names, if there is such a node
abbrev pub companion_in : {N : Type 0} → (N → Judgement) → List N → Reason → Option Judgement
companion_in judgement_of nodes (Step rule) = None
companion_in judgement_of nodes (Back link) = option_map judgement_of (slice_get nodes link.target)

-- a rule's edges lead to the nodes with the numbers, and a link's edge to its target
abbrev pub targets_of : List ℕ → Reason → List ℕ
targets_of us (Step rule) = us
targets_of us (Back link) = link.target ∷ []
