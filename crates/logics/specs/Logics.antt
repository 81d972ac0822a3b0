-- A logic as plain data.
use Rattle.std.specs.Prelude.{ℕ, List, Bool, Option, Result}
use Rattle.trace_pairs.specs.Graph.{Pair}
use Rattle.logics.specs.declared.premises.Subgoal.{Subgoal}

-- the faults of a node that neither its rule nor its link has
pub record NodeFaults (F : Type 0) : Type 0 where
  pub no_such_node : F
  pub premise_count : F
  pub premise_differs : ℕ → F

-- judgements, reasons and faults
pub record LogicValue (J R F : Type 0) : Type 0 where
  -- the positions of a judgement that traces follow
  pub positions : J → List ℕ
  -- whether two judgements are one as they stand
  pub same : J → J → Bool
  -- the node that a link names; a rule names none
  pub target : R → Option ℕ
  -- what a rule leaves to be shown, or its first fault
  pub premises : J → R → Result (List (Subgoal J)) F
  -- the pairs from a bud to the companion of its link, or the link's first fault
  pub pairs_back : J → R → J → Result (List Pair) F
  pub faults : NodeFaults F
