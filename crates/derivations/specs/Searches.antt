-- When the offers of a search suit a logic.
use Rattle.std.specs.Prelude.{ℕ, ◌≡◌, ◌⊎◌, List, Some, None, Ok, slice_get}
use Rattle.trace_pairs.specs.Graph.{IsPositionSet}
use Rattle.derivations.specs.Firsts.{IsIn}
use Rattle.logics.specs.Logics.{LogicValue}
use Rattle.derivations.specs.Tableau.{Subgoal, Goal, Made}
use Rattle.derivations.specs.Fair.{AllOccur}
use Rattle.derivations.specs.Calculus.{Offers}

-- in a search these judgements occur and these reasons are given, as the logic allows; the positions of a judgement are
-- a set, and the premises of one that occurs do; what is offered may be given, and the rules that are offered are no
-- links
pub record Suits {J R F : Type 0} (c : LogicValue J R F) (Stands : J → Type 0) (Given : J → R → Type 0)
    (links rules : Offers J R) (Occurs : J → Type 0) (Allows : R → Type 0) : Type 0 where
  pub stands : (j : J) → Occurs j → Stands j
  pub given : (j : J) (r : R) → Occurs j → Allows r → Given j r
  pub positions : (j : J) → Occurs j → IsPositionSet (c.positions j)
  pub premises : (j : J) (r : R) (ps : List (Subgoal J)) → Occurs j → Allows r → c.premises j r ≡ Ok ps
      → (k : ℕ) (p : Subgoal J) → slice_get ps k ≡ Some p → Occurs p.judgement
  pub offers : (nodes : List (Made J R)) (g : Goal J) (r : R) → AllOccur Occurs nodes g
      → IsIn (links nodes g) r ⊎ IsIn (rules nodes g) r → Allows r
  pub forth : (nodes : List (Made J R)) (g : Goal J) (r : R) → IsIn (rules nodes g) r → c.target r ≡ None
