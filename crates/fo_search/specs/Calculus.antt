-- First-order logic over a theory as a calculus, with what a goal is offered.
use Rattle.std.specs.Prelude.{ℕ, List, [], map, if◌then◌else◌}
use Rattle.cyc_basics.specs.declared.limits.TheConstants.{MOST_LINKS, MOST_NODES}
use Rattle.fo_formula.specs.declared.nodes.FoReason.{FoReason}
use Rattle.fo_formula.specs.declared.nodes.FoReason.TheVariants.{Rule, Link}
use Rattle.fo_formula.specs.declared.nodes.FoRule.TheVariants.{Unfold}
use Rattle.fo_formula.specs.declared.sequents.FoSequent.{FoSequent}
use Rattle.fo_formula.specs.declared.theory.FoTheory.{FoTheory}
use Rattle.search_moves.specs.Places.{each_place}
use Rattle.fo_search.specs.Before.{rules_before}
use Rattle.fo_search.specs.Links.{links_to}
use Rattle.fo_search.specs.After.{rules_after}
use Rattle.fo_logic.specs.FirstOrder.{first_order}
use Rattle.derivations.specs.System.{System}
use Rattle.cyc_basics.specs.Words.{or_else}
use Rattle.buchi_inclusion.specs.Answers.{state_limit}
use Rattle.derivations.specs.Tableau.{Goal, Made, Calculus}
use Rattle.derivations.specs.Room.{is_nil}
use Rattle.derivations.specs.Search.{system_of}
use Rattle.derivations.specs.Calculus.{calculus_with}

-- a goal that is open
abbrev pub OpenGoal : Type 0
OpenGoal = Goal FoSequent

-- a node that is made
abbrev pub MadeNode : Type 0
MadeNode = Made FoSequent FoReason

abbrev pub sequent_of : MadeNode → FoSequent
sequent_of m = m.goal.premise.judgement

-- ---- offers

-- the links to the node with this number; only to one whose rule is Unfold
abbrev pub links_by_reason : FoSequent → ℕ → FoSequent → FoReason → List FoReason
links_by_reason bud k companion (Rule (Unfold i)) = map Link (links_to MOST_LINKS bud companion k)
links_by_reason bud k companion _ = []

abbrev pub links_to_node : FoSequent → ℕ → MadeNode → List FoReason
links_to_node bud k m = links_by_reason bud k (sequent_of m) m.reason

-- the links that are to be tried, none where a rule goes before them
abbrev pub links_at : FoTheory → List MadeNode → OpenGoal → List FoReason
links_at t nodes g =
    if is_nil (rules_before t g.premise.judgement) then each_place (links_to_node g.premise.judgement) nodes else []

-- the rules for the case that none of them is admitted
abbrev pub rules_at : FoTheory → List MadeNode → OpenGoal → List FoReason
rules_at t nodes g = map Rule (or_else (rules_before t g.premise.judgement) (rules_after t g.premise.judgement))

-- ---- the calculus, and the search

abbrev pub calculus_of : FoTheory → Calculus FoSequent FoReason
calculus_of t = calculus_with (first_order t) (links_at t) (rules_at t)

-- the greatest number of nodes of a derivation
abbrev pub node_limit : ℕ
node_limit = MOST_NODES

-- the search for a proof of the sequent
abbrev pub search_system : FoTheory → FoSequent → System FoReason
search_system t s = system_of (calculus_of t) node_limit state_limit s
