-- The offers suit a logic of rules, and what is searched is what was asked.
use Rattle.std.proofs.Common.{◌≡◌, ℕ, List, None, refl, sym, ap, ◌∙◌, subst}
use Rattle.std.specs.Prelude.{Result, Ok, Err, IfOk}
use Rattle.buchi_inclusion.specs.Answers.{state_limit}
use Rattle.derivations.specs.Firsts.{IsIn}
use Rattle.derivations.specs.System.{search_of}
use Rattle.derivations.specs.declared.derivation.Derivation.{Derivation}
use Rattle.derivations.specs.Derivations.{about, search_in}
use Rattle.derivations.specs.declared.found.searching.Proved.{Proved}
use Rattle.derivations.specs.Outcomes.{outcome_of, IsProved}
use Rattle.derivations.specs.Fair.{IsFair}
use Rattle.derivations.specs.Tableau.{Goal, Made}
use Rattle.derivations.specs.Search.{system_of}
use Rattle.derivations.specs.Found.{IsSearchOf}
use Rattle.derivations.specs.Searches.{Suits}
use Rattle.derivations.proofs.Fairness.{fair}
use Rattle.rule_logics.specs.declared.by_rules.ByRules.{ByRules}
use Rattle.rule_logics.specs.declared.reasons.Reason.{Reason}
use Rattle.rule_logics.specs.declared.reasons.Reason.TheVariants.{Rule}
use Rattle.rule_logics.specs.Rules.{RuleValue, AreRules}
use Rattle.rule_logics.specs.Logic.{target_of, logic_by}
use Rattle.rule_logics.specs.Lists.{image_at, positions_set}
use Rattle.rule_logics.specs.Laws.{in_order}
use Rattle.rule_logics.specs.Searches.{links_at, rules_at, calculus_by}

module _ {J R F : Type 0} (c : RuleValue J R F) where
  lead_forth : (nodes : List (Made J (Reason R))) (g : Goal J) (r : Reason R) → IsIn (rules_at c nodes g) r
      → target_of r ≡ None
  lead_forth nodes g r is =
      let m = image_at Rule (c.offers g.premise.judgement) is.place r is.at in
      subst (λ (x : Reason R). target_of x ≡ None) m.is refl

  suits : Suits (logic_by c) (λ j. Unit {0}) (λ j r. Unit {0}) links_at (rules_at c) (λ j. Unit {0}) (λ r. Unit {0})
  suits = record {
    stands = λ j o. tt;
    given = λ j r occurs o. tt;
    positions = λ j o. positions_set (c.follows j);
    premises = λ j r ps o a e k p at. tt;
    offers = λ nodes g r o is. tt;
    forth = lead_forth;
  }

  pub rules_fair : AreRules c → IsFair (calculus_by c) (λ j. Unit {0}) (λ r. Unit {0})
  rules_fair laws = fair (logic_by c) (λ j. Unit {0}) (λ j r. Unit {0}) (in_order c laws) links_at (rules_at c)
      (λ j. Unit {0}) (λ r. Unit {0}) suits

  pub is_search : AreRules c → IsSearchOf (logic_by c) (calculus_by c) (λ j. Unit {0}) (λ r. Unit {0})
  is_search laws = record { is = refl; fair = rules_fair laws; itself = laws.itself }

-- a derivation that is about this logic and this root, which is the goal
module _ {L J R F : Type 0} (rules : L → RuleValue J R F) (start : Derivation (ByRules L) J (Reason R)) (l : L) (n : ℕ)
    (root goal : J) (is : about start ≡ (record { logic = l }, (n, root))) (root_is : root ≡ goal) where
  pub same_search : search_in (λ s. calculus_by (rules s.logic)) start
      ≡ system_of (calculus_by (rules l)) n state_limit goal
  same_search =
      (λ i. let a = is i in system_of (calculus_by (rules a.0.logic)) a.1.0 state_limit a.1.1)
      ∙ ap (λ j. system_of (calculus_by (rules l)) n state_limit j) root_is

  pub same_of : IsSearchOf (logic_by (rules l)) (calculus_by (rules l)) (λ j. Unit {0}) (λ r. Unit {0})
      → IsSearchOf (logic_by (rules l)) (calculus_by (rules start.logic.logic)) (λ j. Unit {0}) (λ r. Unit {0})
  same_of h = subst (λ a. IsSearchOf (logic_by (rules l)) (calculus_by (rules a.0.logic)) (λ j. Unit {0})
      (λ r. Unit {0})) (sym is) h

  module _ {E : Type 0} where
    pub same_outcome : (r : Result (Proved J (Reason R)) E) (most depth : ℕ)
        → IfOk r (λ p. outcome_of p ≡ search_of (search_in (λ s. calculus_by (rules s.logic)) start) most depth) →
        IfOk r (λ p. outcome_of p ≡ search_of (system_of (calculus_by (rules l)) n state_limit goal) most depth)
    same_outcome (Ok p) most depth h = h ∙ ap (λ s. search_of s most depth) same_search
    same_outcome (Err e) most depth h = tt

    pub same_proof : (r : Result (Proved J (Reason R)) E)
        → IfOk r (IsProved (logic_by (rules l)) (calculus_by (rules start.logic.logic)) start.root)
        → IfOk r (IsProved (logic_by (rules l)) (calculus_by (rules l)) goal)
    same_proof (Ok p) h =
        subst (λ j. IsProved (logic_by (rules l)) (calculus_by (rules l)) j p) root_is
        (subst (λ a. IsProved (logic_by (rules l)) (calculus_by (rules a.0.logic)) a.1.1 p) is h)
    same_proof (Err e) h = tt
