-- What is so of a node without a fault: its numbers lead to its premises, or its link to its companion.
use Rattle.std.proofs.Common.{◌≡◌, ℕ, zero, suc, Bool, true, false, List, [], ◌∷◌, length, Option, Some, None, Ok, Err}
use Rattle.std.proofs.Common.{Result, refl, sym, ap, ◌∙◌}
use Rattle.std.specs.Prelude.{slice_get, nat_eq, nat_lt}
use Rattle.trace_pairs.specs.Graph.{Edge, Pair}
use Rattle.logics.specs.declared.premises.Subgoal.{Subgoal}
use Rattle.logics.specs.declared.node.ProofNode.{ProofNode}
use Rattle.logics.specs.Logics.{LogicValue}
use Rattle.logics.specs.Faults.{first_of, fault_unless, differs, premises_fault, rule_fault, pairs_fault}
use Rattle.logics.specs.Faults.{companion_fault, count_fault, reason_fault, node_fault}
use Rattle.logics.specs.Graphs.{edges_to, rule_edges, link_edges, companion_edges, reason_edges, edges_of}

pub none_of_two : {F : Type 0} (a b : Option F) → first_of a b ≡ None → (a ≡ None) × (b ≡ None)
none_of_two None b e = (refl, e)
none_of_two (Some f) b e = cc

pub no_fault : {F : Type 0} (b : Bool) (f : F) → fault_unless b f ≡ None → b ≡ true
no_fault true f e = refl
no_fault false f e = cc

module _ {J R F : Type 0} (c : LogicValue J R F) (same : (j k : J) → c.same j k ≡ true → j ≡ k)
    (nodes : List (ProofNode J R)) where
  -- node u states the premise
  pub record States (u : ℕ) (p : Subgoal J) : Type 0 where
    pub node : ProofNode J R
    pub at : slice_get nodes u ≡ Some node
    pub is : p.judgement ≡ node.judgement

  -- each number leads to its premise
  abbrev pub AllState : List (Subgoal J) → List ℕ → Type 0
  AllState [] [] = Unit {0}
  AllState [] (u ∷ us) = ⊥
  AllState (p ∷ ps) [] = ⊥
  AllState (p ∷ ps) (u ∷ us) = States u p × AllState ps us

  found_same : (i u : ℕ) (p : Subgoal J) (o : Option (ProofNode J R)) → slice_get nodes u ≡ o → differs c i p o ≡ None
      → States u p
  found_same i u p None at e = cc
  found_same i u p (Some node) at e =
      record {
        node = node;
        at = at;
        is = same p.judgement node.judgement
            (no_fault (c.same p.judgement node.judgement) (c.faults.premise_differs i) e);
      }

  all_state : (v i : ℕ) (ps : List (Subgoal J)) (us : List ℕ) → premises_fault c nodes v i ps us ≡ None → AllState ps us
  all_state v i [] [] e = tt
  all_state v i [] (u ∷ us) e = cc
  all_state v i (p ∷ ps) [] e = cc
  all_state v i (p ∷ ps) (u ∷ us) e =
      let a = none_of_two (fault_unless (nat_lt v u) c.faults.no_such_node)
      (first_of (differs c i p (slice_get nodes u)) (premises_fault c nodes v (suc i) ps us)) e in
      let b = none_of_two (differs c i p (slice_get nodes u)) (premises_fault c nodes v (suc i) ps us) a.1 in
      (found_same i u p (slice_get nodes u) refl b.0, all_state v (suc i) ps us b.1)

  -- the edge leads to premise k
  pub record LeadsTo (ps : List (Subgoal J)) (k : ℕ) (e : Edge) : Type 0 where
    pub premise : Subgoal J
    pub is_premise : slice_get ps k ≡ Some premise
    pub states : States e.target premise
    pub pairs : e.pairs ≡ premise.pairs

  pub edge_leads : (ps : List (Subgoal J)) (us : List ℕ) → AllState ps us → (k : ℕ) (e : Edge)
      → slice_get (edges_to ps us) k ≡ Some e → LeadsTo ps k e
  edge_leads [] us h k e is = absurd (let n : None ≡ Some e = is in cc)
  edge_leads (p ∷ ps) [] h k e is = absurd h
  edge_leads (p ∷ ps) (u ∷ us) h zero e is =
      let s : Some (record { target = u; pairs = p.pairs }) ≡ Some e = is in
      let one : record { target = u; pairs = p.pairs } ≡ e = cc in
      record {
        premise = p;
        is_premise = refl;
        states = record
            { node = h.0.node; at = ap (λ (x : Edge). slice_get nodes x.target) (sym one) ∙ h.0.at; is = h.0.is };
        pairs = ap (λ (x : Edge). x.pairs) (sym one);
      }
  edge_leads (p ∷ ps) (u ∷ us) h (suc k) e is =
      let r = edge_leads ps us h.1 k e is in record {
        premise = r.premise;
        is_premise = r.is_premise;
        states = r.states;
        pairs = r.pairs;
      }

  -- premise k has an edge
  pub record HasEdge (ps : List (Subgoal J)) (us : List ℕ) (k : ℕ) (p : Subgoal J) : Type 0 where
    pub target : ℕ
    pub is_edge : slice_get (edges_to ps us) k ≡ Some (record { target = target; pairs = p.pairs })
    pub states : States target p

  pub premise_edge : (ps : List (Subgoal J)) (us : List ℕ) → AllState ps us → (k : ℕ) (p : Subgoal J)
      → slice_get ps k ≡ Some p → HasEdge ps us k p
  premise_edge [] us h k p is = absurd (let n : None ≡ Some p = is in cc)
  premise_edge (q ∷ ps) [] h k p is = absurd h
  premise_edge (q ∷ ps) (u ∷ us) h zero p is =
      let s : Some q ≡ Some p = is in
      let one : q ≡ p = cc in
      record {
        target = u;
        is_edge = ap (λ (x : Subgoal J). Some (record { target = u; pairs = x.pairs })) one;
        states = record { node = h.0.node; at = h.0.at; is = ap (λ (x : Subgoal J). x.judgement) (sym one) ∙ h.0.is };
      }
  premise_edge (q ∷ ps) (u ∷ us) h (suc k) p is =
      let r = premise_edge ps us h.1 k p is in record { target = r.target; is_edge = r.is_edge; states = r.states }

  -- ---- a node without a fault

  -- by a rule
  pub record ByRule (j : J) (r : R) (us : List ℕ) (edges : List Edge) : Type 0 where
    pub premises : List (Subgoal J)
    pub is : c.premises j r ≡ Ok premises
    pub state : AllState premises us
    pub edges_are : edges ≡ edges_to premises us

  -- by a link to this node
  pub record ByLink (j : J) (r : R) (target : ℕ) (edges : List Edge) : Type 0 where
    pub companion : ProofNode J R
    pub at : slice_get nodes target ≡ Some companion
    pub pairs : List Pair
    pub is : c.pairs_back j r companion.judgement ≡ Ok pairs
    pub edges_are : edges ≡ record { target = target; pairs = pairs } ∷ []

  abbrev pub ByReason : J → R → List ℕ → Option ℕ → List Edge → Type 0
  ByReason j r us None edges = ByRule j r us edges
  ByReason j r us (Some target) edges = ByLink j r target edges

  by_rule : (v : ℕ) (us : List ℕ) (j : J) (r : R) (answer : Result (List (Subgoal J)) F) → c.premises j r ≡ answer
      → rule_fault c nodes v us answer ≡ None → ByRule j r us (rule_edges us (c.premises j r))
  by_rule v us j r (Err f) is e = cc
  by_rule v us j r (Ok ps) is e = record {
    premises = ps;
    is = is;
    state = all_state v 0 ps us (none_of_two (fault_unless (nat_eq (length ps) (length us)) c.faults.premise_count)
        (premises_fault c nodes v 0 ps us) e).1;
    edges_are = ap (rule_edges us) is;
  }

  by_pairs : (j : J) (r : R) (target : ℕ) (node : ProofNode J R) → slice_get nodes target ≡ Some node
      → (answer : Result (List Pair) F) → c.pairs_back j r node.judgement ≡ answer → pairs_fault answer ≡ None
      → ByLink j r target (companion_edges c j r target (slice_get nodes target))
  by_pairs j r target node at (Err f) is e = cc
  by_pairs j r target node at (Ok pairs) is e = record {
    companion = node;
    at = at;
    pairs = pairs;
    is = is;
    edges_are = ap (companion_edges c j r target) at ∙ ap (link_edges target) is;
  }

  by_companion : (j : J) (r : R) (target : ℕ) (o : Option (ProofNode J R)) → slice_get nodes target ≡ o
      → companion_fault c j r o ≡ None → ByLink j r target (companion_edges c j r target (slice_get nodes target))
  by_companion j r target None at e = cc
  by_companion j r target (Some node) at e = by_pairs j r target node at (c.pairs_back j r node.judgement) refl e

  by_reason : (v : ℕ) (us : List ℕ) (j : J) (r : R) (o : Option ℕ) → reason_fault c nodes v us j r o ≡ None
      → ByReason j r us o (reason_edges c nodes us j r o)
  by_reason v us j r None e = by_rule v us j r (c.premises j r) refl e
  by_reason v us j r (Some target) e =
      by_companion j r target (slice_get nodes target) refl
      (none_of_two (companion_fault c j r (slice_get nodes target)) (count_fault c us) e).0

  pub node_by : (v : ℕ) (node : ProofNode J R) → node_fault c nodes v node ≡ None
      → ByReason node.judgement node.reason node.premises (c.target node.reason) (edges_of c nodes node)
  node_by v node e = by_reason v node.premises node.judgement node.reason (c.target node.reason) e
