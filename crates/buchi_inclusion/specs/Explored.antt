-- What an exploration of the product comes to.
use Rattle.std.specs.Prelude.{ℕ, ◌≤◌, List, length, Option, MatchOption, Vec}
use Rattle.std.specs.declared.alloc.Global.{Global}
use Rattle.trace_pairs.specs.Graph.{Node}
use Rattle.buchi_inclusion.specs.Product.{State}
use Rattle.buchi_inclusion.specs.declared.product.Transition.{Transition}
use Rattle.buchi_inclusion.specs.declared.product.Table.{Table}
use Rattle.buchi_inclusion.specs.Table.{states_of, IsRow, IsTable}
use Rattle.buchi_inclusion.specs.Answers.{HasMoreThan}

-- the row of the state at a place, within the limit of states; none where the product has more
abbrev pub ExploresRow : List Node → ℕ → List State → ℕ → Option (Vec Transition Global) → Type 0
ExploresRow g limit states place found =
    MatchOption found (HasMoreThan g limit)
    (λ row. IsRow g states place row.items × (length states ≤ limit))

-- the table of the product, within the limit of states; none where the product has more
abbrev pub Explores : List Node → ℕ → Option Table → Type 0
Explores g limit found =
    MatchOption found (HasMoreThan g limit)
    (λ t. IsTable g (states_of t.states) t.rows.items × (length (states_of t.states) ≤ limit))
