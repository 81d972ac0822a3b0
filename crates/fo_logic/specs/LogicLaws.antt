-- Why first-order logic is a logic: lemmas for the laws of its impl, which can cite no others.
use Rattle.std.proofs.Common.{◌≡◌, ℕ, true, List, [], ◌∷◌, map, length, Option, Some, None, Ok, Err, refl, sym, ap, ◌∙◌}
use Rattle.std.proofs.Common.{subst, arith}
use Rattle.std.specs.Prelude.{slice_get}
use Rattle.std.proofs.lemmas.List.{length-map}
use Rattle.heap_formula.specs.declared.judgements.Pair.{Pair}
use Rattle.heap_formula.specs.Meaning.{Stages}
use Rattle.heap_formula.proofs.Members.{each_from}
use Rattle.heap_formula.proofs.AllMembers.{each_at}
use Rattle.fo_formula.specs.declared.nodes.FoLink.{FoLink}
use Rattle.fo_formula.specs.declared.nodes.FoReason.{FoReason}
use Rattle.fo_formula.specs.declared.nodes.FoReason.TheVariants.{Rule, Link}
use Rattle.fo_formula.specs.declared.sequents.FoSequent.{FoSequent}
use Rattle.fo_formula.specs.declared.theory.FoTheory.{FoTheory}
use Rattle.fo_formula.specs.Validity.{HoldsAt}
use Rattle.fo_formula.specs.declared.table.faults.FoFault.{FoFault}
use Rattle.fo_formula.specs.declared.table.premises.FoPremise.{FoPremise}
use Rattle.fo_formula.specs.Answers.{Answer}
use Rattle.fo_formula.specs.LinkTable.{link_fault, link_premise, unless_fault}
use Rattle.fo_formula.specs.Soundness.{IsSound, PremiseHolds}
use Rattle.fo_formula.specs.Table.{rule_answer}
use Rattle.fo_formula.proofs.AllRules.{rule_is_sound}
use Rattle.fo_formula.proofs.Fine.{PremiseFits, IsFine, rule_fine, link_fine}
use Rattle.fo_formula.proofs.Fits.{IsPredAt, PairsFit}
use Rattle.fo_formula.proofs.Links.{link_is_sound}
use Rattle.fo_formula.proofs.Reflects.{sequent_is}
use Rattle.trace_pairs.specs.Graph.{Pair as TracePair, Falls, has}
use Rattle.trace_pairs.specs.System.{AreIn}
use Rattle.proof_graph.specs.Traces.{trace_pair, trace_pairs_of}
use Rattle.proof_graph.proofs.FallingPairs.{falls_of}
use Rattle.proof_graph.proofs.Joined.{mapped_at}
use Rattle.cyc_basics.proofs.Places.{get_map}
use Rattle.logics.specs.declared.premises.Subgoal.{Subgoal}
use Rattle.logics.specs.Laws.{ArePremises, IsInOrder, IsLocallySound}
use Rattle.fo_logic.specs.FirstOrder.{positions_of, traced, traced_answer, pairs_unless, rule_premises, companion_pairs}
use Rattle.fo_logic.specs.FirstOrder.{first_order, MayOccur, IsGiven, Holds}
use Rattle.fo_logic.specs.Places.{place_of}

-- pairs that join predicate atoms join positions
joined : (a b : FoSequent) (pairs : List Pair) → PairsFit a.left b.left pairs
    → AreIn (trace_pairs_of pairs) (positions_of a) (positions_of b)
joined a b pairs fit i p is =
    let q = mapped_at trace_pair pairs i p is in
    let both = each_at (λ (r : Pair). IsPredAt a.left r.old × IsPredAt b.left r.new) pairs i q.from q.at fit in (
      subst (λ (r : TracePair). has (positions_of a) r.0 ≡ true) q.is (place_of a.left q.from.old both.0),
      subst (λ (r : TracePair). has (positions_of b) r.1 ≡ true) q.is (place_of b.left q.from.new both.1),
    )

-- ---- answers

-- an answer with premises
pub record HasPremises (answer : Answer) (ps : List (Subgoal FoSequent)) : Type 0 where
  pub premises : List FoPremise
  pub is : answer ≡ Ok premises
  pub are : map traced premises ≡ ps

pub answered : (answer : Answer) (ps : List (Subgoal FoSequent)) → traced_answer answer ≡ Ok ps → HasPremises answer ps
answered (Err f) ps e = cc
answered (Ok qs) ps e = let one : map traced qs ≡ ps = cc in record { premises = qs; is = refl; are = one }

-- the pairs of a link without a fault
pub record IsLinked (bud companion : FoSequent) (link : FoLink) (pairs : List TracePair) : Type 0 where
  pub none : link_fault bud companion link ≡ None
  pub are : trace_pairs_of (link_premise companion link).pairs ≡ pairs

pub linked : (bud companion : FoSequent) (link : FoLink) (pairs : List TracePair) (o : Option FoFault)
    → link_fault bud companion link ≡ o → pairs_unless o (link_premise companion link) ≡ Ok pairs
    → IsLinked bud companion link pairs
linked bud companion link pairs (Some f) is e = cc
linked bud companion link pairs None is e =
    let one : trace_pairs_of (link_premise companion link).pairs ≡ pairs = cc in record { none = is; are = one }

module _ (t : FoTheory) where
  rules_fit : (s : FoSequent) (r : FoReason) (ps : List (Subgoal FoSequent)) → MayOccur t s → IsGiven t s r
      → rule_premises t s r ≡ Ok ps → ArePremises (first_order t) s ps
  rules_fit s (Link link) ps occurs given e = cc
  rules_fit s (Rule rule) ps occurs given e =
      let a = answered (rule_answer t s rule) ps e in
      let fine : IsFine s (Ok a.premises) = subst (IsFine s) a.is (rule_fine t occurs.definitions s rule) in
      record {
        few = omega (arith, fine.0, length-map a.premises traced, ap length a.are);
        fit = λ k p at. (
            let m = mapped_at traced a.premises k p (ap (λ (xs : List (Subgoal FoSequent)). slice_get xs k) a.are ∙ at)
            in
            subst (λ (q : Subgoal FoSequent). AreIn q.pairs (positions_of s) (positions_of q.judgement)) m.is
            (joined s m.from.sequent m.from.pairs (each_at (PremiseFits s) a.premises k m.from m.at fine.1)));
      }

  links_fit : (s : FoSequent) (r : FoReason) (k : FoSequent) (pairs : List TracePair) → MayOccur t s → MayOccur t k
      → IsGiven t s r → companion_pairs s r k ≡ Ok pairs → AreIn pairs (positions_of s) (positions_of k)
  links_fit s (Rule rule) k pairs bud companion given e = cc
  links_fit s (Link link) k pairs bud companion given e =
      let l = linked s k link pairs (link_fault s k link) refl e in
      let premise = link_premise k link in
      let fine : IsFine s (Ok (premise ∷ [])) = subst (λ o. IsFine s (unless_fault o premise)) l.none
      (link_fine s k link) in
      subst (λ (ps : List TracePair). AreIn ps (positions_of s) (positions_of k)) l.are
      (joined s k premise.pairs fine.1.0)

  pub in_order : IsInOrder (first_order t) (MayOccur t) (IsGiven t)
  in_order = record { same = sequent_is; rules = rules_fit; links = links_fit }

  -- ---- local soundness

  rules_sound : (s : FoSequent) (r : FoReason) (ps : List (Subgoal FoSequent)) → MayOccur t s → IsGiven t s r
      → rule_premises t s r ≡ Ok ps → (σ : Stages) →
      ((k : ℕ) (p : Subgoal FoSequent) → slice_get ps k ≡ Some p → (τ : Stages) → Falls p.pairs σ τ
      → HoldsAt t τ p.judgement) → HoldsAt t σ s
  rules_sound s (Link link) ps occurs given e σ hold = cc
  rules_sound s (Rule rule) ps occurs given e σ hold =
      let a = answered (rule_answer t s rule) ps e in
      let sound : IsSound t s (Ok a.premises) = subst (IsSound t s) a.is
      (rule_is_sound t s rule occurs.constant occurs.terms given) in
      sound σ (each_from (PremiseHolds t σ) a.premises (λ k q at τ follows. (
      let there = ap (λ (xs : List (Subgoal FoSequent)). slice_get xs k) (sym a.are) ∙ get_map traced a.premises k q at
      in
      hold k (traced q) there τ (falls_of q.pairs σ τ follows))))

  links_sound : (s : FoSequent) (r : FoReason) (k : FoSequent) (pairs : List TracePair) → MayOccur t s → MayOccur t k
      → IsGiven t s r → companion_pairs s r k ≡ Ok pairs → (σ : Stages) →
      ((τ : Stages) → Falls pairs σ τ → HoldsAt t τ k) → HoldsAt t σ s
  links_sound s (Rule rule) k pairs bud companion given e σ hold = cc
  links_sound s (Link link) k pairs bud companion given e σ hold =
      let l = linked s k link pairs (link_fault s k link) refl e in
      link_is_sound t s k link bud.constant given l.none σ (
        λ τ follows. hold τ (subst (λ (ps : List TracePair). Falls ps σ τ) l.are
            (falls_of (link_premise k link).pairs σ τ follows)),
        tt,
      )

  pub locally_sound : IsLocallySound (first_order t) (MayOccur t) (IsGiven t) (Holds t)
  locally_sound = record { rules = rules_sound; links = links_sound }
