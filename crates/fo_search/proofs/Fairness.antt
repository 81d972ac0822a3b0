-- The offers suit first-order logic: sequents and reasons stay within the limits.
use Rattle.std.proofs.Common.{◌≡◌, ℕ, List, Some, Ok, slice_get, ap, subst, ◌∙◌}
use Rattle.fo_formula.specs.declared.nodes.FoReason.{FoReason}
use Rattle.fo_formula.specs.declared.nodes.FoReason.TheVariants.{Rule, Link}
use Rattle.fo_formula.specs.declared.sequents.FoSequent.{FoSequent}
use Rattle.fo_formula.specs.declared.theory.FoTheory.{FoTheory}
use Rattle.fo_formula.specs.Table.{rule_answer}
use Rattle.fo_logic.specs.Limits.{IsReasonWithin}
use Rattle.fo_logic.proofs.Open.{sequent_open, reason_open}
use Rattle.fo_logic.proofs.Premises.{IsPremiseWithin, premises_within}
use Rattle.fo_logic.specs.FirstOrder.{traced, rule_premises, first_order, MayOccur as MayStand, IsGiven}
use Rattle.fo_logic.specs.LogicLaws.{answered, in_order}
use Rattle.fo_logic.specs.Places.{places_set}
use Rattle.proof_graph.proofs.Joined.{mapped_at}
use Rattle.logics.specs.declared.premises.Subgoal.{Subgoal}
use Rattle.derivations.specs.Fair.{IsFair}
use Rattle.derivations.specs.Searches.{Suits}
use Rattle.derivations.proofs.Fairness.{fair}
use Rattle.fo_search.specs.Calculus.{links_at, rules_at, calculus_of}
use Rattle.fo_search.specs.Occurring.{MayOccur}
use Rattle.fo_search.proofs.Offers.{rules_lead_forth, offers_within}
use Rattle.heap_formula.proofs.AllMembers.{each_at}

module _ (t : FoTheory) where
  -- what occurs in a search may stand in a proof
  pub stands : (s : FoSequent) → MayOccur t s → MayStand t s
  stands s occurs = record {
    constant = occurs.0.constant;
    definitions = occurs.0.small;
    small = occurs.1.0;
    terms = sequent_open t s occurs.1.1;
  }

  premises_occur : (s : FoSequent) (r : FoReason) (ps : List (Subgoal FoSequent)) → MayOccur t s → IsReasonWithin t r
      → rule_premises t s r ≡ Ok ps →
      (k : ℕ) (p : Subgoal FoSequent) → slice_get ps k ≡ Some p → MayOccur t p.judgement
  premises_occur s (Link link) ps occurs within e k p at = cc
  premises_occur s (Rule rule) ps occurs within e k p at =
      let a = answered (rule_answer t s rule) ps e in
      let m = mapped_at traced a.premises k p (ap (λ (xs : List (Subgoal FoSequent)). slice_get xs k) a.are ∙ at) in
      let short = each_at (IsPremiseWithin t) a.premises k m.from m.at
      (premises_within t s rule a.premises occurs.0 occurs.1 within a.is) in
      subst (λ (q : Subgoal FoSequent). MayOccur t q.judgement) m.is (occurs.0, short)

  pub suits : Suits (first_order t) (MayStand t) (IsGiven t) (links_at t) (rules_at t) (MayOccur t) (IsReasonWithin t)
  suits = record {
    stands = stands;
    given = λ s r occurs within. reason_open t r within;
    positions = λ s occurs. places_set s.left occurs.1.0.left;
    premises = premises_occur;
    offers = λ nodes g r occur offer. offers_within t nodes g occur r offer;
    forth = λ nodes g r is. rules_lead_forth t nodes g r is;
  }

  pub first_order_fair : IsFair (calculus_of t) (MayOccur t) (IsReasonWithin t)
  first_order_fair = fair (first_order t) (MayStand t) (IsGiven t) (in_order t) (links_at t) (rules_at t) (MayOccur t)
      (IsReasonWithin t) suits
