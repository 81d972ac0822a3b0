-- The laws of a logic of rules, with its links.
use Rattle.std.proofs.Common.{◌≡◌, ℕ, ◌<◌, ◌≤◌, Bool, true, false, ◌&&◌, List, map, Some}
use Rattle.std.proofs.Common.{Result, Ok, Err, slice_get, refl, sym, subst, arith}
use Rattle.std.specs.Prelude.{nat_lt}
use Rattle.std.proofs.lemmas.Bool.{ltb-true, and_parts}
use Rattle.std.proofs.lemmas.List.{length-map}
use Rattle.trace_pairs.specs.Graph.{Pair, Falls, has}
use Rattle.trace_pairs.specs.System.{AreIn}
use Rattle.logics.specs.declared.premises.Subgoal.{Subgoal}
use Rattle.logics.specs.Laws.{Fits, ArePremises, PremiseHolds, IsInOrder, IsLocallySound}
use Rattle.rule_logics.specs.declared.reasons.Reason.{Reason}
use Rattle.rule_logics.specs.declared.reasons.Reason.TheVariants.{Rule, Link}
use Rattle.rule_logics.specs.Rules.{RuleValue, AreRules, AreSound}
use Rattle.rule_logics.specs.Logic.{positions_of, is_position, kept_pairs, kept, to_itself, kept_answer, premises_by}
use Rattle.rule_logics.specs.Logic.{back_if, pairs_by, logic_by}
use Rattle.rule_logics.specs.Lists.{image_at, passed_at, position_in}
use Rattle.cyc_basics.proofs.Members.{at_has}
use Rattle.cyc_basics.proofs.Places.{get_map}

module _ {J R F : Type 0} (c : RuleValue J R F) where
  -- ---- what an answer comes from

  pub record IsKept (j : J) (r : R) (ps : List (Subgoal J)) : Type 0 where
    pub premises : List (Subgoal J)
    pub is : c.premises j r ≡ Ok premises
    pub are : map (kept c j) premises ≡ ps

  kept_of : (j : J) (r : R) (ps : List (Subgoal J)) → premises_by c j (Rule r) ≡ Ok ps → IsKept j r ps
  kept_of j r ps e = by (c.premises j r) refl e
    where
      by : (answer : Result (List (Subgoal J)) F) → c.premises j r ≡ answer → kept_answer c j answer ≡ Ok ps
          → IsKept j r ps
      by (Ok these) is e' = let are : map (kept c j) these ≡ ps = cc in record { premises = these; is = is; are = are }
      by (Err f) is e' = absurd (cc)

  pub record IsLinked (bud companion : J) (pairs : List Pair) : Type 0 where
    pub same : c.same bud companion ≡ true
    pub are : to_itself (positions_of c bud) ≡ pairs

  linked_by : (t : Bool) (bud companion : J) (pairs : List Pair) → c.same bud companion ≡ t
      → back_if {F = F} t (to_itself (positions_of c bud)) ≡ Ok pairs → IsLinked bud companion pairs
  linked_by true bud companion pairs is e = let are : to_itself (positions_of c bud) ≡ pairs = cc in
      record { same = is; are = are }
  linked_by false bud companion pairs is e = absurd (cc)

  linked : (bud : J) (r : Reason R) (companion : J) (pairs : List Pair) → pairs_by c bud r companion ≡ Ok pairs
      → IsLinked bud companion pairs
  linked bud (Rule r) companion pairs e = absurd (cc)
  linked bud (Link target) companion pairs e = linked_by (c.same bud companion) bud companion pairs refl e

  -- ---- pairs join positions

  is_in : (j : J) (q : ℕ) → is_position c j q ≡ true → has (positions_of c j) q ≡ true
  is_in j q h =
      let both = and_parts (nat_lt q 32) (c.follows j q) h in
      let below = ltb-true q 32 both.0 in position_in (c.follows j) 32 0 q (omega arith) (omega (arith, below)) both.1

  kept_in : (j k : J) (pairs : List Pair) → AreIn (kept_pairs c j k pairs) (positions_of c j) (positions_of c k)
  kept_in j k pairs i p at =
      let test = λ (q : Pair). is_position c j q.0 && is_position c k q.1 in
      let both = and_parts (is_position c j p.0) (is_position c k p.1) (passed_at test pairs i p at).passed in
      (is_in j p.0 both.0, is_in k p.1 both.1)

  itself_in : (xs : List ℕ) → AreIn (to_itself xs) xs xs
  itself_in xs i p at =
      let m = image_at (λ (q : ℕ). let x : Pair = (q, q, false) in x) xs i p at in
      subst (λ (q : Pair). (has xs q.0 ≡ true) × (has xs q.1 ≡ true)) m.is
      (at_has xs i m.of m.at, at_has xs i m.of m.at)

  module _ (laws : AreRules c) where
    rules_fit : (j : J) (r : Reason R) (ps : List (Subgoal J)) → premises_by c j r ≡ Ok ps
        → ArePremises (logic_by c) j ps
    rules_fit j (Link target) ps e = absurd (cc)
    rules_fit j (Rule r) ps e =
        let k = kept_of j r ps e in
        let few = laws.few j r k.premises k.is in
        subst (ArePremises (logic_by c) j) k.are (record {
          few = omega (arith, few, length-map k.premises (kept c j));
          fit = λ i p at. (let m = image_at (kept c j) k.premises i p at in
              subst (Fits (logic_by c) j) m.is (kept_in j m.of.judgement m.of.pairs));
        })

    pub in_order : IsInOrder (logic_by c) (λ j. Unit {0}) (λ j r. Unit {0})
    in_order = record {
      same = laws.one;
      rules = λ j r ps occurs allowed e. rules_fit j r ps e;
      links = λ j r k pairs bud companion allowed e. (
          let l = linked j r k pairs e in
          subst (λ (ps : List Pair). AreIn ps (positions_of c j) (positions_of c k)) l.are
          (subst (λ (x : J). AreIn (to_itself (positions_of c j)) (positions_of c j) (positions_of c x))
          (laws.one j k l.same) (itself_in (positions_of c j))));
    }

    -- ---- local soundness

    module _ (Holds : (ℕ → ℕ) → J → Type 0) (sound : AreSound c Holds) where
      rules_sound : (j : J) (r : Reason R) (ps : List (Subgoal J)) → premises_by c j r ≡ Ok ps → (σ : ℕ → ℕ)
          → ((k : ℕ) (p : Subgoal J) → slice_get ps k ≡ Some p → PremiseHolds Holds σ p) → Holds σ j
      rules_sound j (Link target) ps e σ hold = absurd (cc)
      rules_sound j (Rule r) ps e σ hold =
          let k = kept_of j r ps e in
          sound j r k.premises k.is σ (λ i p at τ falls. hold i (kept c j p)
          (subst (λ (qs : List (Subgoal J)). slice_get qs i ≡ Some (kept c j p)) k.are
          (get_map (kept c j) k.premises i p at)) τ
          (λ n q there. (
          let passed = passed_at (λ (x : Pair). is_position c j x.0 && is_position c p.judgement x.1) p.pairs n q there
          in falls passed.place q passed.at)))

      itself_falls : (xs : List ℕ) (σ : ℕ → ℕ) → Falls (to_itself xs) σ σ
      itself_falls xs σ i p at =
          let m = image_at (λ (q : ℕ). let x : Pair = (q, q, false) in x) xs i p at in
          let stays : σ m.of ≤ σ m.of = omega arith in
          subst (λ (q : Pair). (σ q.1 ≤ σ q.0) × (q.2 ≡ true → σ q.1 < σ q.0)) m.is
          (stays, λ t. absurd (let e : false ≡ true = t in cc))

      pub locally_sound : IsLocallySound (logic_by c) (λ j. Unit {0}) (λ j r. Unit {0}) Holds
      locally_sound = record {
        rules = λ j r ps occurs allowed e. rules_sound j r ps e;
        links = λ j r k pairs bud companion allowed e σ hold. (
            let l = linked j r k pairs e in
            subst (Holds σ) (sym (laws.one j k l.same))
            (hold σ (subst (λ (ps : List Pair). Falls ps σ σ) l.are (itself_falls (positions_of c j) σ))));
      }
