-- Separation logic as plain data: what its rules and links leave to be shown, and along which pairs.
use Rattle.std.specs.Prelude.{ℕ, List, map, Option, Some, None, Result, Ok, Err}
use Rattle.cyc_basics.specs.declared.limits.Limits.{Limits}
use Rattle.heap_formula.specs.declared.commands.Command.{Command}
use Rattle.heap_formula.specs.declared.judgements.Judgement.{Judgement}
use Rattle.heap_formula.specs.declared.judgements.Premise.{Premise}
use Rattle.heap_formula.specs.declared.proof_rules.Reason.{Reason}
use Rattle.heap_formula.specs.declared.proof_rules.Reason.TheVariants.{Step, Back}
use Rattle.heap_formula.specs.declared.proof_rules.RuleFault.{RuleFault}
use Rattle.heap_formula.specs.declared.proof_rules.RuleFault.TheVariants.{PremiseCount, PremiseDiffers, NoSuchNode}
use Rattle.heap_formula.specs.Definitions.{Definition, HasFewCases}
use Rattle.heap_formula.specs.Judgements.{HoldsAt}
use Rattle.heap_formula.specs.Meaning.{Stages}
use Rattle.heap_formula.specs.Words.{Each}
use Rattle.rule_table.specs.Answer.{Answer}
use Rattle.rule_table.specs.LinkTable.{link_premise}
use Rattle.rule_table.specs.Judgements.{same_judgement}
use Rattle.rule_table.specs.RuleBook.{rule_answer, program_link_fault}
use Rattle.rule_table.specs.Soundness.{IsCommand}
use Rattle.trace_pairs.specs.Graph.{Pair}
use Rattle.proof_graph.specs.Traces.{positions_of, trace_pairs_of}
use Rattle.logics.specs.declared.premises.Subgoal.{Subgoal}
use Rattle.logics.specs.Logics.{LogicValue}

-- the premise, with its pairs as the automata have them
abbrev pub traced : Premise → Subgoal Judgement
traced p = record { judgement = p.judgement; pairs = trace_pairs_of p.pairs }

abbrev pub traced_answer : Answer → Result (List (Subgoal Judgement)) RuleFault
traced_answer (Ok ps) = Ok (map traced ps)
traced_answer (Err f) = Err f

abbrev pub pairs_unless : Option RuleFault → Premise → Result (List Pair) RuleFault
pairs_unless None premise = Ok (trace_pairs_of premise.pairs)
pairs_unless (Some f) premise = Err f

-- the premises of a rule; a link is none
abbrev pub rule_premises : Limits → List Definition → List Command → Judgement → Reason
    → Result (List (Subgoal Judgement)) RuleFault
rule_premises most ds lines j (Step rule) = traced_answer (rule_answer most ds lines j rule)
rule_premises most ds lines j (Back link) = Err NoSuchNode

-- the pairs to the companion of a link; a rule has none
abbrev pub companion_pairs : List Command → Judgement → Reason → Judgement → Result (List Pair) RuleFault
companion_pairs lines bud (Step rule) companion = Err NoSuchNode
companion_pairs lines bud (Back link) companion =
    pairs_unless (program_link_fault lines bud companion link) (link_premise companion link)

-- the node that a link names
abbrev pub target_of : Reason → Option ℕ
target_of (Step rule) = None
target_of (Back link) = Some link.target

abbrev pub separation_logic : Limits → List Definition → List Command → LogicValue Judgement Reason RuleFault
separation_logic most ds lines = record {
  positions = positions_of;
  same = same_judgement;
  target = target_of;
  premises = rule_premises most ds lines;
  pairs_back = companion_pairs lines;
  faults = record { no_such_node = NoSuchNode; premise_count = PremiseCount; premise_differs = PremiseDiffers };
}

-- commands as programs have them, and definitions of few cases; which judgement it is does not matter
pub record MayOccur (ds : List Definition) (lines : List Command) (j : Judgement) : Type 0 where
  pub commands : Each IsCommand lines
  pub cases : Each HasFewCases ds

-- the judgement holds at the stages
abbrev pub Holds : List Definition → List Command → Stages → Judgement → Type 0
Holds ds lines stages j = HoldsAt ds lines stages j
