-- A move that is the least of a cycle.
use Rattle.std.specs.Prelude.{ℕ, ◌≡◌, List, Option, MatchOption}
use Rattle.trace_pairs.specs.Graph.{Node}
use Rattle.buchi_core.specs.declared.event.Event.{Event}
use Rattle.buchi_inclusion.specs.Product.{State, BadCycle}
use Rattle.buchi_inclusion.specs.declared.product.Transition.{Transition}
use Rattle.buchi_inclusion.specs.declared.product.Table.{Table}
use Rattle.buchi_inclusion.specs.declared.decision.Class.{Class}
use Rattle.buchi_inclusion.specs.declared.decision.BadMove.{BadMove}
use Rattle.buchi_inclusion.specs.Table.{states_of, IsItem}
use Rattle.buchi_inclusion.specs.Decision.{IsLeast, HasWay, AreNoWays, IsGoodClass}

-- the move has a least event, and a run over events that aren't earlier leads back from its target
pub record IsBadMove (g : List Node) (states : List State) (m : BadMove) : Type 0 where
  pub least : IsLeast m.least
  pub item : Transition
  pub is_item : IsItem g states m.place m.edge item
  pub target : item.target ≡ m.target
  pub first : item.event ≡ m.least
  pub back : HasWay g states m.least m.target m.place

-- ---- what a search for a bad move comes to

-- a bad move, or no move of the row with the least event lies on a cycle of the class
abbrev pub DecidesRow : Class → ℕ → List Transition → Option BadMove → Type 0
DecidesRow c place row found =
    MatchOption found (AreNoWays c.graph.now (states_of c.table.now.states) c.least place row)
    (IsBadMove c.graph.now (states_of c.table.now.states))

-- a bad move, or no move with this least event lies on a cycle of moves that are not earlier
abbrev pub DecidesClass : List Node → Table → Event → Option BadMove → Type 0
DecidesClass g table least found =
    MatchOption found (IsGoodClass g (states_of table.states) table.rows.items least)
    (IsBadMove g (states_of table.states))

-- a bad move, or no reachable cycle of the product is bad
abbrev pub Decides : List Node → Table → Option BadMove → Type 0
Decides g table found = MatchOption found (BadCycle g → ⊥) (IsBadMove g (states_of table.states))
