-- What a rule or a link makes of a goal.
use Rattle.std.specs.Prelude.{◌≡◌, List, Option, Some, None}
use Rattle.trace_pairs.specs.Graph.{Edge}
use Rattle.derivations.specs.declared.logic.Effect.{Effect}
use Rattle.derivations.specs.Tableau.{Subgoal}

-- these premises and this edge back; none where there are no premises
abbrev pub IsEffectWith : {J : Type 0} → Option (List (Subgoal J)) → Option Edge → Option (Effect J) → Type 0
IsEffectWith premises back None = premises ≡ None
IsEffectWith premises back (Some e) = (premises ≡ Some e.premises.items) × (back ≡ e.back)
