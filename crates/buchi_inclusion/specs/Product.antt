-- The product of a trace graph with its age forests: states, moves, runs and bad cycles.
use Rattle.std.specs.Prelude.{ℕ, ◌≡◌, ◌≤◌, ◌⊎◌, List, [], ◌∷◌, Some, slice_get}
use Rattle.trace_pairs.specs.Graph.{Node, Edge, IsEdge}
use Rattle.trace_pairs.specs.declared.lasso.Step.{Step}
use Rattle.buchi_core.specs.declared.event.Event.{Event}
use Rattle.buchi_core.specs.declared.event.Event.TheVariants.{Dies, Green, Nothing}
use Rattle.buchi_core.specs.Forest.{Entry, next_forest, event_of, start}

-- a node with a forest
pub record State : Type 0 where
  pub node : ℕ
  pub forest : List Entry

-- the edge k leads from s to t, with the event
pub record Moves (g : List Node) (s t : State) (event : Event) : Type 0 where
  pub k : ℕ
  pub e : Edge
  pub target : Node
  pub is_edge : IsEdge g s.node k e
  pub is_target : slice_get g e.target ≡ Some target
  pub node_is : t.node ≡ e.target
  pub forest_is : t.forest ≡ next_forest e.pairs target.positions s.forest
  pub event_is : event ≡ event_of e.pairs target.positions s.forest

-- a path of the product, by its events
abbrev pub Run : List Node → State → State → List Event → Type 0
Run g s t [] = s ≡ t
Run g s t (event ∷ events) = (u : State) × Moves g s u event × Run g u t events

-- no earlier than a death at k
abbrev pub IsFrom : ℕ → Event → Type 0
IsFrom k (Dies i) = k ≤ i
IsFrom k (Green i) = k ≤ i
IsFrom k Nothing = Unit {0}

-- there is no event
abbrev pub IsNothing : Event → Type 0
IsNothing event = event ≡ Nothing

-- each event of the list is so
abbrev pub Each : (Event → Type 0) → List Event → Type 0
Each P [] = Unit {0}
Each P (event ∷ events) = P event × Each P events

-- the event stands in the list
abbrev pub Occurs : Event → List Event → Type 0
Occurs event [] = ⊥
Occurs event (x ∷ xs) = (x ≡ event) ⊎ Occurs event xs

-- the least event is a death, or there is none
abbrev pub IsBad : List Event → Type 0
IsBad events = Each IsNothing events ⊎ ((k : ℕ) × Occurs (Dies k) events × Each (IsFrom k) events)

-- node 0 with its start
pub record IsStart (g : List Node) (s : State) : Type 0 where
  pub root : Node
  pub is_root : slice_get g 0 ≡ Some root
  pub node_is : s.node ≡ 0
  pub forest_is : s.forest ≡ start root.positions

-- a run leads to the state from node 0 with its start
pub record Reachable (g : List Node) (s : State) : Type 0 where
  pub from : State
  pub starts : IsStart g from
  pub events : List Event
  pub run : Run g from s events

-- a reachable cycle of which the least event is a death, or which has none
pub record BadCycle (g : List Node) : Type 0 where
  pub state : State
  pub reachable : Reachable g state
  pub first : Event
  pub rest : List Event
  pub run : Run g state state (first ∷ rest)
  pub bad : IsBad (first ∷ rest)

-- the list holds node 0 with its start, and each state that a move leads to from one of its states
pub record IsClosed (g : List Node) (states : List State) : Type 0 where
  pub root : Node
  pub is_root : slice_get g 0 ≡ Some root
  pub begin : ℕ
  pub begins : slice_get states begin ≡ Some (record { node = 0; forest = start root.positions })
  pub next : (i : ℕ) (s t : State) (event : Event) → slice_get states i ≡ Some s → Moves g s t event →
      (j : ℕ) × (slice_get states j ≡ Some t)

-- the step leads from s to t, with the event
pub record MovesBy (g : List Node) (s t : State) (step : Step) (event : Event) : Type 0 where
  pub move : Moves g s t event
  pub node_is : step.node ≡ s.node
  pub edge_is : step.edge ≡ move.k

-- the steps lead through the product from s to t, with the events
abbrev pub Over : List Node → State → State → List Step → List Event → Type 0
Over g s t [] [] = s ≡ t
Over g s t [] (event ∷ events) = ⊥
Over g s t (step ∷ steps) [] = ⊥
Over g s t (step ∷ steps) (event ∷ events) = (u : State) × MovesBy g s u step event × Over g u t steps events
