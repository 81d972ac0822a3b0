-- The search in a logic of rules: a link to each node made, and the rules that a judgement is offered.
use Rattle.std.specs.Prelude.{ℕ, suc, List, [], ◌∷◌, map}
use Rattle.buchi_inclusion.specs.Answers.{state_limit}
use Rattle.derivations.specs.System.{System}
use Rattle.derivations.specs.Tableau.{Goal, Made, Calculus}
use Rattle.derivations.specs.Search.{system_of}
use Rattle.derivations.specs.Calculus.{calculus_with}
use Rattle.rule_logics.specs.declared.reasons.Reason.{Reason}
use Rattle.rule_logics.specs.declared.reasons.Reason.TheVariants.{Rule, Link}
use Rattle.rule_logics.specs.declared.search.TheConstants.{MOST_NODES}
use Rattle.rule_logics.specs.Rules.{RuleValue}
use Rattle.rule_logics.specs.Logic.{logic_by}

-- a link to each node made, the first of which has number k
abbrev pub links_from : {J R : Type 0} → ℕ → List (Made J (Reason R)) → List (Reason R)
links_from k [] = []
links_from k (m ∷ ms) = Link k ∷ links_from (suc k) ms

abbrev pub links_at : {J R : Type 0} → List (Made J (Reason R)) → Goal J → List (Reason R)
links_at nodes g = links_from 0 nodes

abbrev pub rules_at : {J R F : Type 0} → RuleValue J R F → List (Made J (Reason R)) → Goal J → List (Reason R)
rules_at c nodes g = map Rule (c.offers g.premise.judgement)

abbrev pub calculus_by : {J R F : Type 0} → RuleValue J R F → Calculus J (Reason R)
calculus_by c = calculus_with (logic_by c) links_at (rules_at c)

-- the search for a proof of the judgement
abbrev pub search_by : {J R F : Type 0} → RuleValue J R F → J → System (Reason R)
search_by c goal = system_of (calculus_by c) MOST_NODES state_limit goal
