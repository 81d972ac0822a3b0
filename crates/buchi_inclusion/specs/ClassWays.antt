-- Ways over the moves of a class, between states of its product.
use Rattle.std.specs.Prelude.{ℕ, List, Option, MatchOption, Vec}
use Rattle.std.specs.declared.alloc.Global.{Global}
use Rattle.trace_pairs.specs.declared.lasso.Step.{Step}
use Rattle.trace_pairs.specs.declared.reach.Visit.{Visit}
use Rattle.buchi_inclusion.specs.declared.product.Transition.{Transition}
use Rattle.buchi_inclusion.specs.declared.decision.Class.{Class}
use Rattle.buchi_inclusion.specs.Table.{states_of, IsItem, AreItems}
use Rattle.buchi_inclusion.specs.Decision.{IsWalk, IsNoWay, HasWay, AreLed, AreWays, IsWayBetween}

-- the item says where an edge of the state at a place leads
abbrev pub IsClassItem : Class → ℕ → ℕ → Transition → Type 0
IsClassItem c place edge item = IsItem c.graph.now (states_of c.table.now.states) place edge item

-- each item of the row of the state at a place is right
abbrev pub AreClassItems : Class → ℕ → List Transition → Type 0
AreClassItems c place row = AreItems c.graph.now (states_of c.table.now.states) place row

-- a run over moves of the class leads from the state at a place to that at another
abbrev pub HasClassWay : Class → ℕ → ℕ → Type 0
HasClassWay c from to = HasWay c.graph.now (states_of c.table.now.states) c.least from to

-- no run over moves of the class leads from the state at a place to that at another
abbrev pub IsNoClassWay : Class → ℕ → ℕ → Type 0
IsNoClassWay c from to = IsNoWay c.graph.now (states_of c.table.now.states) c.least from to

-- runs over moves of the class lead from the state at a place to those at each of these
abbrev pub AreClassLed : Class → ℕ → List ℕ → Type 0
AreClassLed c from places = AreLed c.graph.now (states_of c.table.now.states) c.least from places

-- steps over moves of the class from the state at a place to that at another, if there is a way
abbrev pub FindsWay : Class → ℕ → ℕ → Option (Vec Step Global) → Type 0
FindsWay c from to found =
    MatchOption found (IsNoClassWay c from to)
    (λ v. IsWalk c.graph.now (states_of c.table.now.states) c.least from to v.items)

-- the first visit is the start, and each later one comes from an earlier one by a move of the class
abbrev pub AreClassWays : Class → ℕ → List Visit → Type 0
AreClassWays c start visits =
    AreWays c.graph.now (states_of c.table.now.states) c.least start visits

-- steps over moves of the class from the visit at one place to that at another
abbrev pub IsClassWayBetween : Class → List Visit → ℕ → ℕ → List Step → Type 0
IsClassWayBetween c visits from to steps =
    IsWayBetween c.graph.now (states_of c.table.now.states) c.least visits from to steps
