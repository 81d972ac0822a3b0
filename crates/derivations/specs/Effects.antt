-- What a reason makes of a goal.
use Rattle.std.specs.Prelude.{ℕ, ◌≡◌, ◌≤◌, Bool, true, List, length, Option, Some, None}
use Rattle.std.specs.List.{filter}
use Rattle.derivations.specs.Tableau.{Subgoal, Goal, Made, Calculus}
use Rattle.derivations.specs.declared.logic.Effect.{Effect}

-- a reason's premises, and where it leads if it is a link; none at a fault
abbrev pub IsEffect : {J R : Type 0} → Calculus J R → List (Made J R) → Goal J → R → Option (Effect J) → Type 0
IsEffect c nodes g r None = c.premises nodes g r ≡ None
IsEffect c nodes g r (Some e) = (c.premises nodes g r ≡ Some e.premises.items) × (c.back nodes g r ≡ e.back)

-- these are all but some of the reasons that leave more than `most` premises
pub record LeavesOut {J R : Type 0} (c : Calculus J R) (nodes : List (Made J R)) (g : Goal J) (most : ℕ)
    (all these : List R) : Type 0 where
  pub keeps : R → Bool
  pub are : these ≡ filter keeps all
  pub few : (r : R) (ps : List (Subgoal J)) → c.premises nodes g r ≡ Some ps → length ps ≤ most → keeps r ≡ true
