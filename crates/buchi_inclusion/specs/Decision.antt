-- The decision: for a least event, the moves that aren't earlier, and ways over them.
use Rattle.std.specs.Prelude.{ℕ, ◌≡◌, ◌<◌, Bool, true, false, not, List, Some, slice_get, map, Vec}
use Rattle.std.specs.declared.alloc.Global.{Global}
use Rattle.trace_pairs.specs.Graph.{Node, IsGraph}
use Rattle.trace_pairs.specs.Walk.{Walk}
use Rattle.trace_pairs.specs.Lasso.{IsLasso, Progresses}
use Rattle.trace_pairs.specs.declared.lasso.Step.{Step}
use Rattle.trace_pairs.specs.declared.reach.Visit.{Visit}
use Rattle.buchi_core.specs.declared.event.Event.{Event}
use Rattle.buchi_core.specs.declared.event.Event.TheVariants.{Dies, Green, Nothing}
use Rattle.buchi_core.specs.Forest.{is_earlier}
use Rattle.buchi_inclusion.specs.Product.{State, Run, Each, Over}
use Rattle.buchi_inclusion.specs.declared.product.Transition.{Transition}
use Rattle.buchi_inclusion.specs.declared.decision.Class.{Class}
use Rattle.buchi_inclusion.specs.Ranks.{IsRising}
use Rattle.buchi_inclusion.specs.Table.{states_of, IsStep, IsItem, IsTable}
use Rattle.trace_pairs.specs.Turn.{lists_of}

-- a bad cycle's least event can be it
abbrev pub IsLeast : Event → Type 0
IsLeast (Dies k) = Unit {0}
IsLeast (Green k) = ⊥
IsLeast Nothing = Unit {0}

-- the event isn't earlier than the least
abbrev pub IsAtLeast : Event → Event → Type 0
IsAtLeast least event = is_earlier event least ≡ false

-- the targets, and whether the event is allowed
abbrev pub class_row : Event → List Transition → List (ℕ × Bool)
class_row least row = map (λ (m : Transition). (m.target, not (is_earlier m.event least))) row

-- the table of the moves, with whether their events are allowed
abbrev pub class_rows : Event → List (Vec Transition Global) → List (List (ℕ × Bool))
class_rows least rows = map (λ (v : Vec Transition Global). class_row least v.items) rows

-- the table is that of the moves, with whether their events are allowed
abbrev pub IsClass : Event → List (Vec Transition Global) → List (Vec (ℕ × Bool) Global) → Type 0
IsClass least rows table = lists_of table ≡ class_rows least rows

-- steps from the state at a place to that at another, over events that are allowed
pub record IsWalk (g : List Node) (states : List State) (least : Event) (from to : ℕ) (steps : List Step) : Type 0 where
  pub s : State
  pub t : State
  pub is_s : slice_get states from ≡ Some s
  pub is_t : slice_get states to ≡ Some t
  pub events : List Event
  pub over : Over g s t steps events
  pub ok : Each (IsAtLeast least) events

-- there is no way from the state at a place to that at another over events that are allowed
abbrev pub IsNoWay : List Node → List State → Event → ℕ → ℕ → Type 0
IsNoWay g states least from to =
    (s t : State) (events : List Event) → slice_get states from ≡ Some s → slice_get states to ≡ Some t
    → Run g s t events → Each (IsAtLeast least) events → ⊥

-- a run over events that are allowed leads from the state at a place to that at another
pub record HasWay (g : List Node) (states : List State) (least : Event) (from to : ℕ) : Type 0 where
  pub s : State
  pub t : State
  pub is_s : slice_get states from ≡ Some s
  pub is_t : slice_get states to ≡ Some t
  pub events : List Event
  pub run : Run g s t events
  pub ok : Each (IsAtLeast least) events

-- there is such a way to each of these places
abbrev pub AreLed : List Node → List State → Event → ℕ → List ℕ → Type 0
AreLed g states least start places = (i place : ℕ) → slice_get places i ≡ Some place → HasWay g states least start place

-- the visit at a place was made from an earlier one, over an allowed step
pub record IsWay (g : List Node) (states : List State) (least : Event) (visits : List Visit) (q : ℕ) (visit : Visit)
    : Type 0 where
  pub earlier : visit.from < q
  pub from : Visit
  pub is_from : slice_get visits visit.from ≡ Some from
  pub s : State
  pub t : State
  pub is_s : slice_get states from.state ≡ Some s
  pub is_t : slice_get states visit.state ≡ Some t
  pub event : Event
  pub step : IsStep g s visit.edge t event
  pub small : visit.edge < 256
  pub ok : IsAtLeast least event

-- the first visit is the start, and each later one was made from an earlier one over an allowed step
pub record AreWays (g : List Node) (states : List State) (least : Event) (start : ℕ) (visits : List Visit)
    : Type 0 where
  pub first : Visit
  pub is_first : slice_get visits 0 ≡ Some first
  pub starts : first.state ≡ start
  pub led : (q : ℕ) (visit : Visit) → slice_get visits q ≡ Some visit → 0 < q → IsWay g states least visits q visit
  pub listed : (q : ℕ) (visit : Visit) → slice_get visits q ≡ Some visit
      → (s : State) × (slice_get states visit.state ≡ Some s)

-- a walk from the visit at one place to that at another
pub record IsWayBetween (g : List Node) (states : List State) (least : Event) (visits : List Visit) (from to : ℕ)
    (steps : List Step) : Type 0 where
  pub v : Visit
  pub w : Visit
  pub is_v : slice_get visits from ≡ Some v
  pub is_w : slice_get visits to ≡ Some w
  pub walk : IsWalk g states least v.state w.state steps

-- a lasso that doesn't progress
pub record IsCounter (g : List Node) (l : Walk) : Type 0 where
  pub lasso : IsLasso g l
  pub stuck : Progresses g l → ⊥

-- no move with the least event lies on a cycle of allowed ones
abbrev pub AreNoWays : List Node → List State → Event → ℕ → List Transition → Type 0
AreNoWays g states least q row = (k : ℕ) (m : Transition) → slice_get row k ≡ Some m → m.event ≡ least
    → IsNoWay g states least m.target q

-- no move with the least event lies on a cycle of allowed ones, in any row
abbrev pub IsGoodClass : List Node → List State → List (Vec Transition Global) → Event → Type 0
IsGoodClass g states rows least = (q : ℕ) (row : Vec Transition Global) → slice_get rows q ≡ Some row
    → AreNoWays g states least q row.items

-- no move of the row has the event
abbrev pub IsAbsent : Event → List Transition → Type 0
IsAbsent least row = (k : ℕ) (m : Transition) → slice_get row k ≡ Some m → m.event ≡ least → ⊥

-- no move of any row has the event
abbrev pub IsAbsentFrom : Event → List (Vec Transition Global) → Type 0
IsAbsentFrom least rows = (q : ℕ) (row : Vec Transition Global) → slice_get rows q ≡ Some row → IsAbsent least row.items

-- the class is that of its least event over the product of its graph
pub record IsClassOf (c : Class) : Type 0 where
  pub graph : IsGraph c.graph.now
  pub table : IsTable c.graph.now (states_of c.table.now.states) c.table.now.rows.items
  pub least : IsLeast c.least
  pub rising : c.rising ≡ true → IsRising c.least c.table.now.rows.items c.ranks.now

-- edge `edge` of the state at a place has the least event, and the steps lead back from its target
pub record IsWayBack (c : Class) (place edge : ℕ) (back : List Step) : Type 0 where
  pub item : Transition
  pub is_item : IsItem c.graph.now (states_of c.table.now.states) place edge item
  pub first : item.event ≡ c.least
  pub walk : IsWalk c.graph.now (states_of c.table.now.states) c.least item.target place back
