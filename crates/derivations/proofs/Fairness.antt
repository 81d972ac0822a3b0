-- The calculus of a logic is in order where its offers suit the logic.
use Rattle.std.proofs.Common.{◌≡◌, ℕ, List, [], Option, Some, None, slice_get, sym, ap, subst, arith}
use Rattle.trace_pairs.specs.Graph.{Edge}
use Rattle.logics.specs.Logics.{LogicValue}
use Rattle.logics.specs.Laws.{IsInOrder}
use Rattle.derivations.specs.Tableau.{Subgoal, Goal, Made}
use Rattle.derivations.specs.Fair.{AllOccur, ArePremises, IsBack, IsFair}
use Rattle.derivations.specs.Calculus.{Offers, judgement_of, edge_to, premises_by, back_by, calculus_with}
use Rattle.derivations.specs.Searches.{Suits}
use Rattle.derivations.proofs.Answers.{answer_is, none_with, linked}

module _ {J R F : Type 0} (c : LogicValue J R F) (Stands : J → Type 0) (Given : J → R → Type 0)
    (order : IsInOrder c Stands Given) (links rules : Offers J R) (Occurs : J → Type 0) (Allows : R → Type 0)
    (suits : Suits c Stands Given links rules Occurs Allows) where
  have_premises : (nodes : List (Made J R)) (g : Goal J) (r : R) (ps : List (Subgoal J)) (o : Option ℕ)
      → AllOccur Occurs nodes g → Allows r →
      premises_by c nodes g.premise.judgement r o ≡ Some ps → ArePremises (calculus_with c links rules) Occurs g ps
  have_premises nodes g r ps None occur allowed h =
      let j = g.premise.judgement in
      let is = answer_is (c.premises j r) ps h in
      let are = order.rules j r ps (suits.stands j occur.goal) (suits.given j r occur.goal allowed) is in
      record {
        few = are.few;
        each = λ k p at. record {
          occurs = suits.premises j r ps occur.goal allowed is k p at;
          fit = are.fit k p at;
        };
      }
  have_premises nodes g r ps (Some target) occur allowed h =
      subst (ArePremises (calculus_with c links rules) Occurs g)
      (sym (none_with (edge_to c g.premise.judgement r target (slice_get nodes target)) ps h).2)
      (record { few = omega arith; each = λ k p at. absurd (let e : None ≡ Some p = at in cc) })

  lead_back : (nodes : List (Made J R)) (g : Goal J) (r : R) (e : Edge) (o : Option ℕ) → AllOccur Occurs nodes g
      → Allows r →
      back_by c nodes g.premise.judgement r o ≡ Some e → IsBack (calculus_with c links rules) nodes g e
  lead_back nodes g r e None occur allowed h = absurd (let x : None ≡ Some e = h in cc)
  lead_back nodes g r e (Some target) occur allowed h =
      let j = g.premise.judgement in
      let l = linked c nodes j r target e h in
      let k = judgement_of l.companion in
      let fit = order.links j r k l.pairs (suits.stands j occur.goal)
      (suits.stands k (occur.made target l.companion l.is_companion)) (suits.given j r occur.goal allowed) l.is in
      subst (IsBack (calculus_with c links rules) nodes g) l.edge
      (record { node = l.companion; is_node = l.is_companion; fit = fit })

  stand_alone : (nodes : List (Made J R)) (g : Goal J) (r : R) (e : Edge) (ps : List (Subgoal J)) (o : Option ℕ) →
      back_by c nodes g.premise.judgement r o ≡ Some e → premises_by c nodes g.premise.judgement r o ≡ Some ps → ps ≡ []
  stand_alone nodes g r e ps None b h = absurd (let x : None ≡ Some e = b in cc)
  stand_alone nodes g r e ps (Some target) b h = (none_with (edge_to c g.premise.judgement r target
      (slice_get nodes target)) ps h).2

  pub fair : IsFair (calculus_with c links rules) Occurs Allows
  fair = record {
    positions = suits.positions;
    offers = suits.offers;
    premises = λ nodes g r ps occur allowed h. have_premises nodes g r ps (c.target r) occur allowed h;
    links_back = λ nodes g r e occur allowed h. lead_back nodes g r e (c.target r) occur allowed h;
    links_alone = λ nodes g r e ps b h. stand_alone nodes g r e ps (c.target r) b h;
    rules_forth = λ nodes g r is. ap (back_by c nodes g.premise.judgement r) (suits.forth nodes g r is);
  }
