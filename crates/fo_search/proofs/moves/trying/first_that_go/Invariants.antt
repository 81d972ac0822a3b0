use Rattle.std.proofs.Common.{◌≡◌, ◌≤◌, ◌++◌, ◌-◌, take, drop, length}
use Rattle.std.specs.List.{filter}
use Rattle.fo_search.specs.Trying.{is_applicable}
use Rattle.fo_search.proofs.moves.trying.first_that_go.Given as goal

abbrev pub invariant-loop-k : goal.invariant-loop-k
invariant-loop-k l =
    (take l.kept l.rules.items ++ take (l.most - l.kept) (filter (is_applicable l.theory l.sequent)
    (drop l.k l.rules.items)) ≡ take l.most (filter (is_applicable l.theory l.sequent) l.fn.rules.items))
    × (l.kept ≤ l.k) × (length l.rules.items ≡ length l.fn.rules.items)
