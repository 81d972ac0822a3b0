use Rattle.std.proofs.Common.{◌≡◌, ◌++◌, ◌-◌}
use Rattle.std.specs.List.{filter, range_with_len}
use Rattle.back_links.specs.Listing.{stands_in}
use Rattle.back_links.proofs.variables.universals.Given as goal

abbrev pub invariant-loop-n : goal.invariant-loop-n
invariant-loop-n l = l.all.items ++ filter (λ n. stands_in n l.judgement) (range_with_len l.n (l.bound - l.n))
    ≡ filter (λ n. stands_in n l.judgement) (range_with_len 0 l.bound)
