-- The table has all product states, and the decision is that of their cycles.
use Rattle.std.proofs.Common.{length, ◌≤◌}
use Rattle.buchi_inclusion.specs.declared.product.Table.{Table}
use Rattle.buchi_inclusion.specs.Answers.{HasMoreThan}
use Rattle.buchi_inclusion.specs.BadMoves.{IsBadMove}
use Rattle.buchi_inclusion.specs.Product.{BadCycle}
use Rattle.buchi_inclusion.specs.Table.{states_of, IsTable}
use Rattle.buchi_inclusion.proofs.BadMoves.{bad_fails}
use Rattle.buchi_inclusion.proofs.Exploring.{none_of, some_of}
use Rattle.buchi_inclusion.proofs.Tables.{all_reached}
use Rattle.buchi_inclusion.proofs.Exact.{exact}
use Rattle.buchi_inclusion.proofs.all_lassos_progress.Goals as goal

pub returns-in_default-found : goal.returns-in_default-found
returns-in_default-found c =
    let t = some_of (HasMoreThan c.args.graph.now c.args.limit)
    (λ (t : Table). IsTable c.args.graph.now (states_of t.states) t.rows.items
    × (length (states_of t.states) ≤ c.args.limit))
    c.in_ok-explored.explored c.in-Some.table c.in-Some.is c.in_ok-explored.ensures in
    let good = none_of (BadCycle c.args.graph.now → ⊥) (IsBadMove c.args.graph.now (states_of c.in-Some.table.states))
    c.in_ok-found.found c.in_default-found.is c.in_ok-found.ensures in (
      (exact c.args.graph.now c.requires.graph).1 good,
      (
        states_of c.in-Some.table.states,
        all_reached c.args.graph.now (states_of c.in-Some.table.states)
            c.in-Some.table.rows.items t.0,
        t.1,
      ),
    )

pub returns : goal.returns
returns c =
    let t = some_of (HasMoreThan c.args.graph.now c.args.limit)
    (λ (t : Table). IsTable c.args.graph.now (states_of t.states) t.rows.items
    × (length (states_of t.states) ≤ c.args.limit))
    c.in_ok-explored.explored c.in-Some.table c.in-Some.is c.in_ok-explored.ensures in
    let bad = some_of (BadCycle c.args.graph.now → ⊥) (IsBadMove c.args.graph.now (states_of c.in-Some.table.states))
    c.in_ok-found.found c.in-Some-found._bad c.in-Some-found.is c.in_ok-found.ensures in (
      bad_fails c.args.graph.now (states_of c.in-Some.table.states)
          c.in-Some.table.rows.items c.in-Some-found._bad c.requires.graph t.0 bad,
      (
        states_of c.in-Some.table.states,
        all_reached c.args.graph.now (states_of c.in-Some.table.states)
            c.in-Some.table.rows.items t.0,
        t.1,
      ),
    )
