-- What a list of reasons makes of a judgement: nodes in preorder, the open goals, and the trace graph so far.
use Rattle.std.specs.Prelude.{ℕ, ◌+◌, List, [], ◌∷◌, ◌++◌, Option, Some, None, length, fold}
use Rattle.trace_pairs.specs.Graph.{Node, Edge}
use Rattle.buchi_inclusion.specs.Leaf.{add_edge, with_leaf}
use Rattle.logics.specs.declared.premises.Subgoal.{Subgoal as PremiseOfCode}
use Rattle.derivations.specs.declared.tableaux.goals.OpenGoal.{OpenGoal}
use Rattle.derivations.specs.declared.tableaux.goals.MadeNode.{MadeNode}

-- a judgement, and the pairs that lead to it
abbrev pub Subgoal : Type 0 → Type 0
Subgoal J = PremiseOfCode J

-- a premise that a node is to be made for: the one at a place of node `parent`. The first goal has depth 1, and a
-- premise is one deeper than what it is a premise of
abbrev pub Goal : Type 0 → Type 0
Goal J = OpenGoal J

-- a node: the goal that it was made for, and why it holds
abbrev pub Made : Type 0 → Type 0 → Type 0
Made J R = MadeNode J R

-- the nodes made, the open goals, the next one first, and the trace graph
pub record Tableau (J R : Type 0) : Type 0 where
  pub nodes : List (Made J R)
  pub goals : List (Goal J)
  pub graph : List Node

-- rules and links: what the nodes made so far and the next goal offer, and what a reason makes of it
pub record Calculus (J R : Type 0) : Type 0 where
  pub positions : J → List ℕ
  -- the links to be tried, and the rules for the case that none is admitted
  pub links : List (Made J R) → Goal J → List R
  pub rules : List (Made J R) → Goal J → List R
  -- the premises of a reason without a fault; of a link none
  pub premises : List (Made J R) → Goal J → R → Option (List (Subgoal J))
  -- where a link leads to, with its pairs
  pub back : List (Made J R) → Goal J → R → Option Edge

-- the premises from place k on, as goals of a node
abbrev pub goals_of : {J : Type 0} → ℕ → ℕ → ℕ → List (Subgoal J) → List (Goal J)
goals_of node depth k [] = []
goals_of node depth k (p ∷ ps) = record { parent = node; place = k; depth = depth; premise = p }
    ∷ goals_of node depth (k + 1) ps

-- the graph with the next goal's node, and the edge that leads to it; the first node has none
abbrev pub grown : {J R : Type 0} → Calculus J R → List Node → Goal J → List Node
grown c graph g = with_leaf graph g.parent g.premise.pairs (c.positions g.premise.judgement)

-- the graph with the edge of node v's link, if it has one
abbrev pub linked : ℕ → List Node → Option Edge → List Node
linked v graph None = graph
linked v graph (Some e) = add_edge v e graph

-- the tableau after the next goal g has got a reason with these premises
abbrev pub with_premises : {J R : Type 0} → Calculus J R → List (Made J R) → List Node → R → Goal J → List (Goal J)
    → Option (List (Subgoal J)) → Option (Tableau J R)
with_premises c nodes graph r g rest None = None
with_premises c nodes graph r g rest (Some ps) = Some (record {
  nodes = nodes ++ (record { goal = g; reason = r } ∷ []);
  goals = goals_of (length nodes) (g.depth + 1) 0 ps ++ rest;
  graph = linked (length nodes) (grown c graph g) (c.back nodes g r);
})

abbrev pub at_next : {J R : Type 0} → Calculus J R → List (Made J R) → List Node → R → List (Goal J)
    → Option (Tableau J R)
at_next c nodes graph r [] = None
at_next c nodes graph r (g ∷ rest) = with_premises c nodes graph r g rest (c.premises nodes g r)

-- one reason more, at the next goal
abbrev pub step : {J R : Type 0} → Calculus J R → Option (Tableau J R) → R → Option (Tableau J R)
step c None r = None
step c (Some t) r = at_next c t.nodes t.graph r t.goals

-- the goal that a derivation of the judgement begins with
abbrev pub root_goal : {J : Type 0} → J → Goal J
root_goal j = record { parent = 0; place = 0; depth = 1; premise = record { judgement = j; pairs = [] } }

-- no node, and that goal
abbrev pub begin : {J R : Type 0} → J → Tableau J R
begin j = record { nodes = []; goals = root_goal j ∷ []; graph = [] }

-- what a list of reasons makes of a judgement; None where a reason has a fault or no goal is open for it
abbrev pub replay : {J R : Type 0} → Calculus J R → J → List R → Option (Tableau J R)
replay c j reasons = fold (step c) (Some (begin j)) reasons
