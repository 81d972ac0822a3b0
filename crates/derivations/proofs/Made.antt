-- Each node made, with its node in the trace graph: its positions, and its edges to the nodes made for its premises.
use Rattle.std.proofs.Common.{◌≡◌, ℕ, suc, ◌<◌, List, [], ◌∷◌, Some, slice_get, length, refl, sym, ap, subst, arith}
use Rattle.trace_pairs.specs.Graph.{Edge}
use Rattle.buchi_core.proofs.Lists.{get_one}
use Rattle.derivations.specs.Tableau.{Subgoal, Made, Tableau, Calculus}
use Rattle.derivations.specs.Nodes.{HasEdges, LeadToAll}

-- node v of the trace graph has the positions of the judgement, and the edges
pub record IsMade {J R : Type 0} (c : Calculus J R) (t : Tableau J R) (v : ℕ) (m : Made J R) : Type 0 where
  pub edged : HasEdges c t v m
  pub positions : edged.node.positions ≡ c.positions m.goal.premise.judgement

abbrev pub AllMade : {J R : Type 0} → Calculus J R → Tableau J R → Type 0
AllMade {J} {R} c t = (v : ℕ) (m : Made J R) → slice_get t.nodes v ≡ Some m → IsMade c t v m

-- the edge leads from node v to a later node that has the premise's judgement, with the premise's pairs
pub record LeadsToPremise {J R : Type 0} (nodes : List (Made J R)) (v : ℕ) (p : Subgoal J) (e : Edge) : Type 0 where
  pub later : v < e.target
  pub node : Made J R
  pub is_node : slice_get nodes e.target ≡ Some node
  pub judgement : p.judgement ≡ node.goal.premise.judgement
  pub pairs : e.pairs ≡ p.pairs

-- an edge for each premise, in order
abbrev pub AllLead : {J R : Type 0} → List (Made J R) → ℕ → List (Subgoal J) → List Edge → Type 0
AllLead nodes v [] [] = Unit {0}
AllLead nodes v [] (e ∷ es) = ⊥
AllLead nodes v (p ∷ ps) [] = ⊥
AllLead nodes v (p ∷ ps) (e ∷ es) = LeadsToPremise nodes v p e × AllLead nodes v ps es

lead_each : {J R : Type 0} (nodes : List (Made J R)) (v : ℕ) (ps : List (Subgoal J)) (es : List Edge) →
    length es ≡ length ps →
    ((k : ℕ) (p : Subgoal J) (e : Edge) → slice_get ps k ≡ Some p → slice_get es k ≡ Some e
    → LeadsToPremise nodes v p e) → AllLead nodes v ps es
lead_each nodes v [] [] size each = tt
lead_each nodes v [] (e ∷ es) size each = absurd (omega (arith, size))
lead_each nodes v (p ∷ ps) [] size each = absurd (omega (arith, size))
lead_each nodes v (p ∷ ps) (e ∷ es) size each =
    (each 0 p e refl refl, lead_each nodes v ps es (omega (arith, size)) (λ k q x a b. each (suc k) q x a b))

pub all_lead : {J R : Type 0} (nodes : List (Made J R)) (v : ℕ) (ps : List (Subgoal J)) (es : List Edge) →
    LeadToAll nodes v ps es → AllLead nodes v ps es
all_lead {J} {R} nodes v ps es led = lead_each nodes v ps es led.as_many each
  where
    each : (k : ℕ) (p : Subgoal J) (e : Edge) → slice_get ps k ≡ Some p → slice_get es k ≡ Some e →
        LeadsToPremise nodes v p e
    each k p e is_p is_e =
        let l = led.each k p is_p in
        let same : record { target = l.q; pairs = p.pairs }
        ≡ e = get_one es k (record { target = l.q; pairs = p.pairs }) e l.is_edge is_e in
        subst (LeadsToPremise nodes v p) same (record {
          later = l.made.later;
          node = l.made.node;
          is_node = l.made.is_node;
          judgement = sym (ap (λ (q : Subgoal J). q.judgement) l.made.stands.premise);
          pairs = refl;
        })

pub lead_count : {J R : Type 0} (nodes : List (Made J R)) (v : ℕ) (ps : List (Subgoal J)) (es : List Edge) →
    AllLead nodes v ps es → length es ≡ length ps
lead_count nodes v [] [] led = refl
lead_count nodes v [] (e ∷ es) led = absurd led
lead_count nodes v (p ∷ ps) [] led = absurd led
lead_count nodes v (p ∷ ps) (e ∷ es) led = ap suc (lead_count nodes v ps es led.1)
