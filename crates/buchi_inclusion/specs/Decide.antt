-- Whether every lasso of a trace graph progresses, and the list of its product states.
use Rattle.std.specs.Prelude.{ℕ, suc, Bool, true, false, not, ◌&&◌, List, [], ◌∷◌, ◌++◌, Option, Some, None, slice_get}
use Rattle.std.specs.Prelude.{length, nat_le, if◌then◌else◌}
use Rattle.trace_pairs.specs.Graph.{Node, Edge}
use Rattle.buchi_core.specs.declared.event.Event.{Event}
use Rattle.buchi_core.specs.declared.event.Event.TheVariants.{Dies, Green, Nothing}
use Rattle.buchi_core.specs.Forest.{next_forest, event_of, start}
use Rattle.std.specs.List.{list_any}
use Rattle.buchi_inclusion.specs.Product.{State}
use Rattle.buchi_inclusion.specs.States.{states_from}
use Rattle.buchi_inclusion.specs.Equal.{same_state}
use Rattle.buchi_inclusion.specs.Closure.{closure, some_below}

pub record Move : Type 0 where
  pub event : Event
  pub to : State

abbrev pub over_edge : State → Edge → Option Node → List Move
over_edge s e None = []
over_edge s e (Some target) = record {
  event = event_of e.pairs target.positions s.forest;
  to = record { node = e.target; forest = next_forest e.pairs target.positions s.forest };
} ∷ []

abbrev pub over_edges : List Node → State → List Edge → List Move
over_edges g s [] = []
over_edges g s (e ∷ es) = over_edge s e (slice_get g e.target) ++ over_edges g s es

abbrev pub from_node : List Node → State → Option Node → List Move
from_node g s None = []
from_node g s (Some node) = over_edges g s node.edges

-- the moves from a state
abbrev pub moves_of : List Node → State → List Move
moves_of g s = from_node g s (slice_get g s.node)

abbrev pub is_nothing : Event → Bool
is_nothing (Dies i) = false
is_nothing (Green i) = false
is_nothing Nothing = true

abbrev pub is_from : ℕ → Event → Bool
is_from k (Dies i) = nat_le k i
is_from k (Green i) = nat_le k i
is_from k Nothing = true

abbrev pub always : Event → Bool
always event = true

abbrev pub leads_to : List Node → (Event → Bool) → Option State → Option State → Bool
leads_to g test None t = false
leads_to g test (Some s) None = false
leads_to g test (Some s) (Some t) = list_any (λ (m : Move). test m.event && same_state m.to t) (moves_of g s)

-- whether a move whose event passes leads from the state at i to that at j
abbrev pub step : List Node → List State → (Event → Bool) → ℕ → ℕ → Bool
step g states test i j = leads_to g test (slice_get states i) (slice_get states j)

abbrev pub walks : List Node → List State → (Event → Bool) → ℕ → ℕ → Bool
walks g states test i j = closure (step g states test) (length states) i j

abbrev pub is_start : List Node → Option Node → Option State → Bool
is_start g None s = false
is_start g (Some root) None = false
is_start g (Some root) (Some s) = same_state s (record { node = 0; forest = start root.positions })

-- whether the state at i is reachable
abbrev pub is_reached : List Node → List State → ℕ → Bool
is_reached g states i = some_below (λ j. is_start g (slice_get g 0) (slice_get states j) && walks g states always j i)
    (length states)

abbrev pub is_at : Option State → State → Bool
is_at None t = false
is_at (Some s) t = same_state s t

-- whether events that pass lead from the state at j to s
abbrev pub returns_to : List Node → List State → (Event → Bool) → ℕ → State → Bool
returns_to g states test j s = some_below (λ i. is_at (slice_get states i) s && walks g states test j i) (length states)

-- whether events no earlier than this one do
abbrev pub leads_back : List Node → List State → Event → ℕ → State → Bool
leads_back g states (Dies k) j s = returns_to g states (is_from k) j s
leads_back g states (Green k) j s = false
leads_back g states Nothing j s = returns_to g states is_nothing j s

abbrev pub turns_bad : List Node → List State → Option State → Bool
turns_bad g states None = false
turns_bad g states (Some s) = list_any (λ (m : Move). some_below
    (λ j. is_at (slice_get states j) m.to && leads_back g states m.event j s) (length states)) (moves_of g s)

-- whether a bad cycle begins at a reachable state with its least event
abbrev pub has_bad_cycle : List Node → List State → Bool
has_bad_cycle g states = some_below (λ i. is_reached g states i && turns_bad g states (slice_get states i))
    (length states)

abbrev pub progresses : List Node → Bool
progresses g = not (has_bad_cycle g (states_from 0 g))

abbrev pub reached_from : List Node → List State → ℕ → List State → List State
reached_from g states i [] = []
reached_from g states i (s ∷ ss) = if is_reached g states i then s
    ∷ reached_from g states (suc i) ss else reached_from g states (suc i) ss

abbrev pub once : List State → List State
once [] = []
once (s ∷ ss) = if list_any (same_state s) ss then once ss else s ∷ once ss

-- the product states, each once
abbrev pub product_states : List Node → List State
product_states g = once (reached_from g (states_from 0 g) 0 (states_from 0 g))

-- how many there are
abbrev pub number_of : List Node → ℕ
number_of g = length (product_states g)
