-- What is so of everything that a goal is offered: it stays within the limits, and its rules are no links.
use Rattle.std.proofs.Common.{◌≡◌, ℕ, suc, ◌⊎◌, inl, inr, Bool, true, false, cond, List, [], ◌∷◌, None, refl, subst}
use Rattle.heap_formula.specs.Words.{Each}
use Rattle.heap_formula.proofs.Members.{each_from as each_told}
use Rattle.search_moves.specs.Places.{each_from, each_place}
use Rattle.fo_formula.specs.declared.nodes.FoLink.{FoLink}
use Rattle.fo_formula.specs.declared.nodes.FoReason.{FoReason}
use Rattle.fo_formula.specs.declared.nodes.FoReason.TheVariants.{Rule, Link}
use Rattle.fo_formula.specs.declared.nodes.FoRule.{FoRule}
use Rattle.fo_formula.specs.declared.nodes.FoRule.TheVariants.{Axiom, Refl, Clash, Decompose, Replace, WeakenLeft}
use Rattle.fo_formula.specs.declared.nodes.FoRule.TheVariants.{WeakenRight, Contract, Unfold, Cut, Right}
use Rattle.fo_formula.specs.declared.sequents.FoSequent.{FoSequent}
use Rattle.fo_formula.specs.declared.theory.FoTheory.{FoTheory}
use Rattle.fo_logic.specs.Limits.{IsReasonWithin}
use Rattle.fo_search.specs.Before.{rules_before}
use Rattle.fo_search.specs.Links.{links_to}
use Rattle.fo_search.specs.After.{rules_after}
use Rattle.fo_search.proofs.Offered.{before_within, links_within, after_within}
use Rattle.proof_graph.proofs.Joined.{mapped_at}
use Rattle.derivations.specs.Firsts.{IsIn}
use Rattle.cyc_basics.specs.Words.{or_else}
use Rattle.derivations.specs.Room.{is_nil}
use Rattle.derivations.specs.Fair.{AllOccur}
use Rattle.fo_search.specs.Calculus.{OpenGoal, MadeNode, sequent_of, links_by_reason, links_to_node, links_at, rules_at}
use Rattle.fo_logic.specs.FirstOrder.{target_of}
use Rattle.fo_search.specs.Occurring.{MayOccur}
use Rattle.cyc_basics.specs.declared.limits.TheConstants.{MOST_LINKS}
use Rattle.heap_formula.proofs.AllMembers.{each_append, each_at, each_mapped}
use Rattle.fo_search.proofs.Lists.{each_else}

each_if : {X : Type 0} (P : X → Type 0) (b : Bool) (xs : List X) → Each P xs → Each P (cond b xs [])
each_if P true xs h = h
each_if P false xs h = tt

-- what is so of the links between the bud and each companion is so of its links to nodes
module _ (P : FoReason → Type 0) (bud : FoSequent) (C : FoSequent → Type 0)
    (each : (k : ℕ) (companion : FoSequent) → C companion
    → Each (λ (link : FoLink). P (Link link)) (links_to MOST_LINKS bud companion k)) where
  by_reason : (k : ℕ) (companion : FoSequent) (r : FoReason) → C companion →
      Each P (links_by_reason bud k companion r)
  by_reason k companion (Rule (Axiom i j)) h = tt
  by_reason k companion (Rule (Refl j)) h = tt
  by_reason k companion (Rule (Clash i)) h = tt
  by_reason k companion (Rule (Decompose i)) h = tt
  by_reason k companion (Rule (Replace i side)) h = tt
  by_reason k companion (Rule (WeakenLeft i)) h = tt
  by_reason k companion (Rule (WeakenRight j)) h = tt
  by_reason k companion (Rule (Contract i)) h = tt
  by_reason k companion (Rule (Unfold i)) h = each_mapped P Link (links_to MOST_LINKS bud companion k)
      (each k companion h)
  by_reason k companion (Rule (Cut x)) h = tt
  by_reason k companion (Rule (Right j c terms)) h = tt
  by_reason k companion (Link link) h = tt

  by_nodes : (k : ℕ) (nodes : List MadeNode) → Each (λ (m : MadeNode). C (sequent_of m)) nodes →
      Each P (each_from (links_to_node bud) k nodes)
  by_nodes k [] h = tt
  by_nodes k (m ∷ nodes) h =
      each_append P (links_to_node bud k m) (each_from (links_to_node bud) (suc k) nodes)
      (by_reason k (sequent_of m) m.reason h.0) (by_nodes (suc k) nodes h.1)

module _ (t : FoTheory) (nodes : List MadeNode) (g : OpenGoal) where
  -- the rules that are offered are no links
  pub rules_lead_forth : (r : FoReason) → IsIn (rules_at t nodes g) r → target_of r ≡ None
  rules_lead_forth r is =
      let rules = or_else (rules_before t g.premise.judgement) (rules_after t g.premise.judgement) in
      let rule = mapped_at Rule rules is.place r is.at in
      subst (λ (x : FoReason). target_of x ≡ None) rule.is refl

  -- what is so of such links and rules is so of what is offered
  module _ (P : FoReason → Type 0) (C : FoSequent → Type 0)
      (each : (k : ℕ) (companion : FoSequent) → C companion →
      Each (λ (link : FoLink). P (Link link)) (links_to MOST_LINKS g.premise.judgement companion k))
      (companions : Each (λ (m : MadeNode). C (sequent_of m)) nodes)
      (before : Each (λ (rule : FoRule). P (Rule rule)) (rules_before t g.premise.judgement))
      (after : Each (λ (rule : FoRule). P (Rule rule)) (rules_after t g.premise.judgement)) where
    links_are : Each P (links_at t nodes g)
    links_are =
        let s = g.premise.judgement in
        each_if P (is_nil (rules_before t s)) (each_place (links_to_node s) nodes)
        (by_nodes P s C each 0 nodes companions)

    rules_are : Each P (rules_at t nodes g)
    rules_are =
        let s = g.premise.judgement in
        each_mapped P Rule (or_else (rules_before t s) (rules_after t s))
        (each_else (λ (rule : FoRule). P (Rule rule)) (rules_before t s) (rules_after t s) before after)

    pub offers_are : (r : FoReason) → IsIn (links_at t nodes g) r ⊎ IsIn (rules_at t nodes g) r → P r
    offers_are r (inl link) = each_at P (links_at t nodes g) link.place r link.at links_are
    offers_are r (inr rule) = each_at P (rules_at t nodes g) rule.place r rule.at rules_are

  pub offers_within : AllOccur (MayOccur t) nodes g → (r : FoReason) →
      IsIn (links_at t nodes g) r ⊎ IsIn (rules_at t nodes g) r →
      IsReasonWithin t r
  offers_within occur =
      let s = g.premise.judgement in
      let atoms = occur.goal.1.1 in
      offers_are (IsReasonWithin t) (MayOccur t) (λ k companion h. links_within t MOST_LINKS k s companion atoms h.1.1)
      (each_told (λ (m : MadeNode). MayOccur t (sequent_of m)) nodes occur.made) (before_within t s)
      (after_within t s atoms)
