-- When the positions, offers, premises and links of a calculus are in order, for the judgements that may occur and the
-- reasons that may be given.
use Rattle.std.specs.Prelude.{ℕ, ◌≡◌, ◌≤◌, ◌⊎◌, List, [], Some, None, slice_get, length}
use Rattle.trace_pairs.specs.Graph.{Edge, IsPositionSet}
use Rattle.trace_pairs.specs.System.{AreIn}
use Rattle.derivations.specs.Firsts.{IsIn}
use Rattle.derivations.specs.Tableau.{Subgoal, Goal, Made, Calculus}

-- the judgements of the goal and of the nodes may occur
pub record AllOccur {J R : Type 0} (Occurs : J → Type 0) (nodes : List (Made J R)) (g : Goal J) : Type 0 where
  pub goal : Occurs g.premise.judgement
  pub made : (i : ℕ) (m : Made J R) → slice_get nodes i ≡ Some m → Occurs m.goal.premise.judgement

-- the judgement may occur, and the pairs lead from positions of the goal to positions of it
pub record IsPremise {J R : Type 0} (c : Calculus J R) (Occurs : J → Type 0) (g : Goal J) (p : Subgoal J) : Type 0 where
  pub occurs : Occurs p.judgement
  pub fit : AreIn p.pairs (c.positions g.premise.judgement) (c.positions p.judgement)

-- the premises of a reason that is given to the goal
pub record ArePremises {J R : Type 0} (c : Calculus J R) (Occurs : J → Type 0) (g : Goal J) (ps : List (Subgoal J))
    : Type 0 where
  pub few : length ps ≤ 256
  pub each : (k : ℕ) (p : Subgoal J) → slice_get ps k ≡ Some p → IsPremise c Occurs g p

-- the edge leads to one of the nodes, and its pairs from positions of the goal to positions of that node
pub record IsBack {J R : Type 0} (c : Calculus J R) (nodes : List (Made J R)) (g : Goal J) (e : Edge) : Type 0 where
  pub node : Made J R
  pub is_node : slice_get nodes e.target ≡ Some node
  pub fit : AreIn e.pairs (c.positions g.premise.judgement) (c.positions node.goal.premise.judgement)

-- of a calculus with these judgements and reasons
pub record IsFair {J R : Type 0} (c : Calculus J R) (Occurs : J → Type 0) (Allows : R → Type 0) : Type 0 where
  pub positions : (j : J) → Occurs j → IsPositionSet (c.positions j)
  -- what is offered may be given
  pub offers : (nodes : List (Made J R)) (g : Goal J) (r : R) → AllOccur Occurs nodes g
      → IsIn (c.links nodes g) r ⊎ IsIn (c.rules nodes g) r → Allows r
  pub premises : (nodes : List (Made J R)) (g : Goal J) (r : R) (ps : List (Subgoal J)) → AllOccur Occurs nodes g
      → Allows r → c.premises nodes g r ≡ Some ps → ArePremises c Occurs g ps
  pub links_back : (nodes : List (Made J R)) (g : Goal J) (r : R) (e : Edge) → AllOccur Occurs nodes g → Allows r
      → c.back nodes g r ≡ Some e → IsBack c nodes g e
  -- a link has no premises
  pub links_alone : (nodes : List (Made J R)) (g : Goal J) (r : R) (e : Edge) (ps : List (Subgoal J))
      → c.back nodes g r ≡ Some e → c.premises nodes g r ≡ Some ps → ps ≡ []
  -- the other rules are no links
  pub rules_forth : (nodes : List (Made J R)) (g : Goal J) (r : R) → IsIn (c.rules nodes g) r → c.back nodes g r ≡ None
