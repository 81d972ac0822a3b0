-- Separation logic over definitions and a program as a calculus, with what a goal is offered.
use Rattle.std.specs.Prelude.{ℕ, List, map}
use Rattle.cyc_basics.specs.declared.limits.TheConstants.{MOST_NODES}
use Rattle.heap_formula.specs.declared.judgements.Judgement.{Judgement}
use Rattle.heap_formula.specs.declared.proof_rules.Reason.{Reason}
use Rattle.heap_formula.specs.declared.proof_rules.Reason.TheVariants.{Step, Back}
use Rattle.heap_formula.specs.declared.proof_rules.RuleFault.{RuleFault}
use Rattle.buchi_inclusion.specs.Answers.{state_limit}
use Rattle.logics.specs.Logics.{LogicValue}
use Rattle.rule_book.specs.SeparationLogic.{separation_logic}
use Rattle.derivations.specs.Calculus.{calculus_with}
use Rattle.derivations.specs.Search.{system_of}
use Rattle.derivations.specs.System.{System}
use Rattle.derivations.specs.Tableau.{Calculus}
use Rattle.search_moves.specs.Nodes.{OpenGoal, MadeNode}
use Rattle.search_moves.specs.Offering.{links_offered, rules_offered}
use Rattle.search_moves.specs.Trying.{Theory}

abbrev pub logic_over : Theory → LogicValue Judgement Reason RuleFault
logic_over t = separation_logic t.most t.definitions t.lines

-- the links to be tried, and the rules for the case that none of them is admitted
abbrev pub links_at : Theory → List MadeNode → OpenGoal → List Reason
links_at t nodes g = map Back (links_offered t nodes g)

abbrev pub rules_at : Theory → List MadeNode → OpenGoal → List Reason
rules_at t nodes g = map Step (rules_offered t nodes g)

abbrev pub calculus_of : Theory → Calculus Judgement Reason
calculus_of t = calculus_with (logic_over t) (links_at t) (rules_at t)

-- the greatest number of nodes of a derivation
abbrev pub node_limit : ℕ
node_limit = MOST_NODES

-- the search for a proof of the judgement
abbrev pub search_system : Theory → Judgement → System Reason
search_system t j = system_of (calculus_of t) node_limit state_limit j
