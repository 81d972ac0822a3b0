-- The nodes of a tableau without open goals: their judgements, reasons, premises and edges.
use Rattle.std.specs.Prelude.{ℕ, ◌≡◌, ◌<◌, ◌≤◌, ◌⊎◌, List, [], ◌∷◌, map, Option, Some, None, slice_get, length, take}
use Rattle.trace_pairs.specs.Graph.{Node, Edge}
use Rattle.buchi_inclusion.specs.Answers.{HasAtMost}
use Rattle.derivations.specs.Firsts.{IsIn}
use Rattle.derivations.specs.Tableau.{Subgoal, Goal, Made, Tableau, Calculus}

-- node 0 is made for the judgement
pub record HasRoot {J R : Type 0} (j : J) (t : Tableau J R) : Type 0 where
  pub root : Made J R
  pub is_root : slice_get t.nodes 0 ≡ Some root
  pub judgement : root.goal.premise.judgement ≡ j

-- the reasons of the nodes, in order
abbrev pub reasons_of : {J R : Type 0} → Tableau J R → List R
reasons_of {J} {R} t = map (λ (m : Made J R). m.reason) t.nodes

-- each node's judgement may occur, and its reason may be given
abbrev pub MayStand : {J R : Type 0} → (J → Type 0) → (R → Type 0) → Tableau J R → Type 0
MayStand {J} {R} Occurs Allows t = (i : ℕ) (m : Made J R) → slice_get t.nodes i ≡ Some m
    → Occurs m.goal.premise.judgement × Allows m.reason

-- each node's reason was offered to its goal, over the nodes before it
abbrev pub AllOffered : {J R : Type 0} → Calculus J R → Tableau J R → Type 0
AllOffered {J} {R} c t =
    (i : ℕ) (m : Made J R) → slice_get t.nodes i ≡ Some m
    → IsIn (c.links (take i t.nodes) m.goal) m.reason ⊎ IsIn (c.rules (take i t.nodes) m.goal) m.reason

-- no goal is open, and there are at most so many nodes and product states
pub record IsSmall {J R : Type 0} (limit most : ℕ) (t : Tableau J R) : Type 0 where
  pub closed : t.goals ≡ []
  pub nodes : length t.nodes ≤ limit
  pub states : HasAtMost t.graph most

-- the goal stands at place k of node i, for the premise
pub record StandsAt {J : Type 0} (i k : ℕ) (p : Subgoal J) (g : Goal J) : Type 0 where
  pub parent : g.parent ≡ i
  pub place : g.place ≡ k
  pub premise : g.premise ≡ p

-- node q is a later one that is made for premise p, at place k of node i
pub record IsMadeFor {J R : Type 0} (nodes : List (Made J R)) (i k : ℕ) (p : Subgoal J) (q : ℕ) : Type 0 where
  pub later : i < q
  pub node : Made J R
  pub is_node : slice_get nodes q ≡ Some node
  pub stands : StandsAt i k p node.goal

-- node i has premises, and a node is made for each; its reason saw the nodes before it
pub record HasPremises {J R : Type 0} (c : Calculus J R) (t : Tableau J R) (i : ℕ) (m : Made J R) : Type 0 where
  pub premises : List (Subgoal J)
  pub has : c.premises (take i t.nodes) m.goal m.reason ≡ Some premises
  pub made : (k : ℕ) (p : Subgoal J) → slice_get premises k ≡ Some p → (q : ℕ) × IsMadeFor t.nodes i k p q

abbrev pub AllHavePremises : {J R : Type 0} → Calculus J R → Tableau J R → Type 0
AllHavePremises {J} {R} c t = (i : ℕ) (m : Made J R) → slice_get t.nodes i ≡ Some m → HasPremises c t i m

-- no two nodes after node 0 are made for one place of a node
abbrev pub StandApart : {J R : Type 0} → Tableau J R → Type 0
StandApart {J} {R} t =
    (p q : ℕ) (m n : Made J R) → slice_get t.nodes p ≡ Some m → slice_get t.nodes q ≡ Some n → 0 < p → 0 < q
    → m.goal.parent ≡ n.goal.parent → m.goal.place ≡ n.goal.place → p ≡ q

-- edge k leads to the node that is made for premise p, at place k of node i, with the premise's pairs
pub record LeadsTo {J R : Type 0} (nodes : List (Made J R)) (i k : ℕ) (p : Subgoal J) (edges : List Edge) : Type 0 where
  pub q : ℕ
  pub made : IsMadeFor nodes i k p q
  pub is_edge : slice_get edges k ≡ Some (record { target = q; pairs = p.pairs })

-- an edge for each premise, in order
pub record LeadToAll {J R : Type 0} (nodes : List (Made J R)) (i : ℕ) (ps : List (Subgoal J)) (edges : List Edge)
    : Type 0 where
  pub as_many : length edges ≡ length ps
  pub each : (k : ℕ) (p : Subgoal J) → slice_get ps k ≡ Some p → LeadsTo nodes i k p edges

-- a link's one edge, or one for each premise
abbrev pub AreEdges : {J R : Type 0} → List (Made J R) → ℕ → List (Subgoal J) → Option Edge → List Edge → Type 0
AreEdges nodes i ps (Some e) edges = edges ≡ e ∷ []
AreEdges nodes i ps None edges = LeadToAll nodes i ps edges

-- the edges of node i, for its premises or its link
pub record HasEdges {J R : Type 0} (c : Calculus J R) (t : Tableau J R) (i : ℕ) (m : Made J R) : Type 0 where
  pub premises : List (Subgoal J)
  pub has : c.premises (take i t.nodes) m.goal m.reason ≡ Some premises
  pub node : Node
  pub is_node : slice_get t.graph i ≡ Some node
  pub edges : AreEdges t.nodes i premises (c.back (take i t.nodes) m.goal m.reason) node.edges

abbrev pub AllHaveEdges : {J R : Type 0} → Calculus J R → Tableau J R → Type 0
AllHaveEdges {J} {R} c t = (i : ℕ) (m : Made J R) → slice_get t.nodes i ≡ Some m → HasEdges c t i m
