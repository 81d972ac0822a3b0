-- The product as a table: states, and for each the moves along the edges of its node.
use Rattle.std.specs.Prelude.{ℕ, ◌≡◌, ◌<◌, ◌≤◌, Bool, List, [], ◌∷◌, ◌++◌, Some, slice_get, map, cond, length, Vec}
use Rattle.std.specs.declared.alloc.Global.{Global}
use Rattle.std.specs.HashSet.{HashSet}
use Rattle.buchi_core.specs.View.{entries_of}
use Rattle.cyc_basics.specs.declared.limits.TheConstants.{MOST_POSITIONS}
use Rattle.trace_pairs.specs.Graph.{Node}
use Rattle.buchi_core.specs.declared.event.Event.{Event}
use Rattle.buchi_inclusion.specs.Product.{State, Moves, Reachable, IsStart}
use Rattle.buchi_inclusion.specs.declared.product.Transition.{Transition}
use Rattle.buchi_inclusion.specs.declared.product.Product.{Product}

-- the plain data of a state
abbrev pub state_of : Product → State
state_of p = record { node = p.node; forest = entries_of p.forest.now }

-- the plain data of the states, in the order of discovery
abbrev pub states_of : {S : Type 0} → HashSet Product S → List State
states_of s = map state_of s.keys

-- the state stands at the place; where it is new it was appended, and else the states stay
pub record IsFound (old new : List State) (s : State) (place : ℕ) (is_new : Bool) : Type 0 where
  pub at : slice_get new place ≡ Some s
  pub appended : new ≡ cond is_new (old ++ (s ∷ [])) old

-- over edge k a state leads to t, with the event
pub record IsStep (g : List Node) (s : State) (k : ℕ) (t : State) (event : Event) : Type 0 where
  pub move : Moves g s t event
  pub by : move.k ≡ k

-- the node of the state has no edge n or above
abbrev pub IsLast : List Node → State → ℕ → Type 0
IsLast g s n = (node : Node) → slice_get g s.node ≡ Some node → length node.edges ≤ n

-- a state that was found: it is reachable, its node is one, and it has few entries
pub record IsState (g : List Node) (s : State) : Type 0 where
  pub reached : Reachable g s
  pub node : s.node < length g
  pub short : length s.forest ≤ MOST_POSITIONS

-- over edge k a state that was found leads to t, which is found so, with the event
abbrev pub Finds : List Node → State → ℕ → State → Event → Type 0
Finds g s k t event = IsStep g s k t event × IsState g t

-- each state was found
abbrev pub AreStates : List Node → List State → Type 0
AreStates g states = (i : ℕ) (s : State) → slice_get states i ≡ Some s → IsState g s

-- the item says where edge k of the state at a place leads
pub record IsItem (g : List Node) (states : List State) (place k : ℕ) (m : Transition) : Type 0 where
  pub s : State
  pub t : State
  pub is_s : slice_get states place ≡ Some s
  pub is_t : slice_get states m.target ≡ Some t
  pub step : IsStep g s k t m.event

-- each item of the row is right
abbrev pub AreItems : List Node → List State → ℕ → List Transition → Type 0
AreItems g states place row = (k : ℕ) (m : Transition) → slice_get row k ≡ Some m → IsItem g states place k m

-- the row has an item for each edge
pub record IsRow (g : List Node) (states : List State) (place : ℕ) (row : List Transition) : Type 0 where
  pub items : AreItems g states place row
  pub s : State
  pub is_s : slice_get states place ≡ Some s
  pub last : IsLast g s (length row)

-- each state has its row
abbrev pub AreRows : List Node → List State → List (Vec Transition Global) → Type 0
AreRows g states rows = (q : ℕ) (row : Vec Transition Global) → slice_get rows q ≡ Some row → IsRow g states q row.items

-- no state stands at two places
abbrev pub AreApart : List State → Type 0
AreApart states = (i j : ℕ) (s : State) → slice_get states i ≡ Some s → slice_get states j ≡ Some s → i ≡ j

-- the old states stay in their places
abbrev pub Extends : List State → List State → Type 0
Extends old new = (i : ℕ) (s : State) → slice_get old i ≡ Some s → slice_get new i ≡ Some s

-- the first state is node 0 with its start
pub record HasStart (g : List Node) (states : List State) : Type 0 where
  pub first : State
  pub is_first : slice_get states 0 ≡ Some first
  pub starts : IsStart g first

-- all reachable states, and their rows
pub record IsTable (g : List Node) (states : List State) (rows : List (Vec Transition Global)) : Type 0 where
  pub begin : HasStart g states
  pub found : AreStates g states
  pub apart : AreApart states
  pub row_at : AreRows g states rows
  pub long : length rows ≡ length states
