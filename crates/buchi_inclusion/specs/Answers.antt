-- What the contracts of the inclusion say: graphs that are in order, the number of product states, and the least event
-- of a cycle.
use Rattle.std.specs.Prelude.{ℕ, ◌≡◌, ◌<◌, ◌≤◌, ◌⊎◌, List, Some, slice_get, length}
use Rattle.trace_pairs.specs.Graph.{Node}
use Rattle.buchi_core.specs.declared.event.Event.{Event}
use Rattle.buchi_core.specs.declared.event.Event.TheVariants.{Dies, Nothing}
use Rattle.buchi_inclusion.specs.declared.TheConstants.{MOST_PRODUCT_STATES}
use Rattle.buchi_inclusion.specs.Product.{State, Moves, Run, Each, IsFrom, IsNothing, Reachable}

-- reachable product states, each once
pub record AreReached (g : List Node) (states : List State) : Type 0 where
  pub apart : (i j : ℕ) (s : State) → slice_get states i ≡ Some s → slice_get states j ≡ Some s → i ≡ j
  pub reached : (i : ℕ) (s : State) → slice_get states i ≡ Some s → Reachable g s

-- all reachable product states, each once
pub record AreAllReached (g : List Node) (states : List State) : Type 0 where
  pub some' : AreReached g states
  pub all' : (s : State) → Reachable g s → (i : ℕ) × (slice_get states i ≡ Some s)

-- the greatest number of product states that a check or a search explores
abbrev pub state_limit : ℕ
state_limit = MOST_PRODUCT_STATES

-- the number of reachable product states is at most n
abbrev pub HasAtMost : List Node → ℕ → Type 0
HasAtMost g n = (states : List State) × AreAllReached g states × (length states ≤ n)

-- it is above n
abbrev pub HasMoreThan : List Node → ℕ → Type 0
HasMoreThan g n = (states : List State) × AreReached g states × (n < length states)

-- a cycle of reachable states with a first move that no other event is before, a death or one without event
pub record LeastFirst (g : List Node) : Type 0 where
  pub s : State
  pub t : State
  pub event : Event
  pub reachable : Reachable g s
  pub move : Moves g s t event
  pub events : List Event
  pub back : Run g t s events
  pub least : ((event ≡ Nothing) × Each IsNothing events) ⊎ ((k : ℕ) × (event ≡ Dies k) × Each (IsFrom k) events)
