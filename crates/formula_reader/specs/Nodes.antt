-- Nodes that may stand in a problem's proof file.
use Rattle.std.specs.Prelude.{ℕ, List, []}
use Rattle.cyc_basics.specs.declared.limits.Limits.{Limits}
use Rattle.heap_formula.specs.declared.judgements.Judgement.{Judgement}
use Rattle.heap_formula.specs.declared.proof_rules.Reason.TheVariants.{Step}
use Rattle.heap_formula.specs.declared.proof_rules.Rule.TheVariants.{Absurd}
use Rattle.heap_formula.specs.Definitions.{Definition}
use Rattle.heap_formula.specs.Words.{Each}
use Rattle.proof_file.specs.FileNodes.{FileNode}
use Rattle.rule_book.specs.Limits.{IsJudgementWithin, IsReasonWithin, HasShortNumbers, IsShortNumber}

-- a node over these definitions and so many lines, within these limits
pub record IsNodeWithin (most : Limits) (ds : List Definition) (count : ℕ) (node : FileNode) : Type 0 where
  pub judgement : IsJudgementWithin most ds count node.judgement
  pub reason : IsReasonWithin most ds node.reason
  pub numbers : HasShortNumbers node.reason
  pub premises : Each IsShortNumber node.premises

-- a node that claims the goal; its reason has no number, term or formula
abbrev pub node_of_goal : Judgement → FileNode
node_of_goal goal = record { judgement = goal; reason = Step Absurd; premises = [] }
