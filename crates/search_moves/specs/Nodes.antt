-- Nodes and goals of partial derivations in separation logic.
use Rattle.heap_formula.specs.declared.judgements.Judgement.{Judgement}
use Rattle.heap_formula.specs.declared.proof_rules.Reason.{Reason}
use Rattle.derivations.specs.Tableau.{Goal, Made}
pub use Rattle.derivations.specs.Calculus.{judgement_of}

-- a goal that is open
abbrev pub OpenGoal : Type 0
OpenGoal = Goal Judgement

-- a node that is made
abbrev pub MadeNode : Type 0
MadeNode = Made Judgement Reason
