-- Partial derivations of a judgement.
use Rattle.std.specs.Prelude.{ℕ, ◌≡◌, ◌+◌, ◌-◌, ◌<◌, ◌≤◌, nat_lt, if◌then◌else◌, false, true, List, [], ◌∷◌, map}
use Rattle.std.specs.Prelude.{reverse, length, Option, Some, None, slice_get}
use Rattle.trace_pairs.specs.Graph.{Node, Edge}
use Rattle.buchi_inclusion.specs.Answers.{state_limit}
use Rattle.derivations.specs.System.{System}
use Rattle.derivations.specs.Tableau.{Goal, Made, Tableau, Calculus, grown, linked, step, replay}
use Rattle.derivations.specs.Fair.{IsFair}
use Rattle.derivations.specs.Search.{system_of}
use Rattle.derivations.specs.declared.derivation.Derivation.{Derivation}
use Rattle.derivations.specs.declared.logic.Effect.{Effect}
use Rattle.derivations.specs.Effects.{IsEffect}

-- the open goals, the next one first; it stands last on the stack
abbrev pub goals_in : {L J R : Type 0} → Derivation L J R → List (Goal J)
goals_in s = reverse s.goals.items

-- the reasons so far
abbrev pub reasons_in : {L J R : Type 0} → Derivation L J R → List R
reasons_in {L} {J} {R} s = map (λ (m : Made J R). m.reason) s.made.items

-- the nodes, the goals and the trace graph
abbrev pub tableau_in : {L J R : Type 0} → Derivation L J R → Tableau J R
tableau_in s = record { nodes = s.made.items; goals = goals_in s; graph = s.traces }

-- what it is about: a logic, the most nodes, and the judgement that it begins with
abbrev pub about : {L J R : Type 0} → Derivation L J R → L × (ℕ × J)
about s = (s.logic, (s.limit, s.root))

-- the nodes, the goals and the graph are what the reasons make of the judgement
pub record IsInOrder {L J R : Type 0} (calculus : L → Calculus J R) (Occurs : L → J → Type 0) (Allows : L → R → Type 0)
    (s : Derivation L J R) : Type 0 where
  pub fair : IsFair (calculus s.logic) (Occurs s.logic) (Allows s.logic)
  pub occurs : Occurs s.logic s.root
  pub allowed : (k : ℕ) (r : R) → slice_get (reasons_in s) k ≡ Some r → Allows s.logic r
  pub replayed : replay (calculus s.logic) s.root (reasons_in s) ≡ Some (tableau_in s)
  pub few : length s.made.items + length s.goals.items ≤ s.limit
  pub fits : s.limit < 4294967296

-- the search for a derivation of the judgement
abbrev pub search_in : {L J R : Type 0} → (L → Calculus J R) → Derivation L J R → System R
search_in calculus s = system_of (calculus s.logic) s.limit state_limit s.root

-- the reason has this effect at the next goal
pub record HasEffect {L J R : Type 0} (calculus : L → Calculus J R) (s : Derivation L J R) (r : R) (e : Effect J)
    : Type 0 where
  pub goal : Goal J
  pub rest : List (Goal J)
  pub next : goals_in s ≡ goal ∷ rest
  pub effect : IsEffect (calculus s.logic) s.made.items goal r (Some e)

-- the reason has this effect at the next goal, and its premises fit
pub record MayTake {L J R : Type 0} (calculus : L → Calculus J R) (s : Derivation L J R) (r : R) (e : Effect J)
    : Type 0 where
  pub has : HasEffect calculus s r e
  pub room : length s.made.items + 1 + (length e.premises.items + length has.rest) ≤ s.limit
  pub depth : 0 < length e.premises.items → has.goal.depth < 4294967295

-- what a reason makes of the next goal
abbrev pub IsNextEffect : {L J R : Type 0} → (L → Calculus J R) → Derivation L J R → R → Option (Effect J) → Type 0
IsNextEffect calculus s r None = step (calculus s.logic) (Some (tableau_in s)) r ≡ None
IsNextEffect calculus s r (Some e) = HasEffect calculus s r e

-- the effect of a reason that may be followed within a depth
abbrev pub IsFitting : {L J R : Type 0} → (L → Calculus J R) → Derivation L J R → ℕ → R → Option (Effect J) → Type 0
IsFitting calculus s bound r None = (search_in calculus s).fits bound (reasons_in s) r ≡ false
IsFitting calculus s bound r (Some e) = ((search_in calculus s).fits bound (reasons_in s) r ≡ true)
    × MayTake calculus s r e

-- the most premises that fit within a depth at a goal, beside the nodes made and the open goals, the goal among them
abbrev pub room_at : ℕ → ℕ → ℕ → ℕ → ℕ → ℕ
room_at limit bound made goals depth = if nat_lt depth bound then limit - (made + goals) else 0

-- the trace graph with the next goal as a node, by a reason that leads back along the edge, if it does
abbrev pub graph_with : {J R : Type 0} → Calculus J R → List (Made J R) → List Node → List (Goal J) → Option Edge
    → List Node
graph_with c nodes graph [] back = graph
graph_with c nodes graph (g ∷ rest) back = linked (length nodes) (grown c graph g) back

-- the same of a derivation
abbrev pub next_graph : {L J R : Type 0} → (L → Calculus J R) → Derivation L J R → Option Edge → List Node
next_graph calculus s back = graph_with (calculus s.logic) s.made.items s.traces (goals_in s) back

-- the system is that search
abbrev pub IsItsSearch : {L J R : Type 0} → (L → Calculus J R) → Derivation L J R → System R → Type 0
IsItsSearch calculus s system = system ≡ search_in calculus s
