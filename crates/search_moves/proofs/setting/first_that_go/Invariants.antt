use Rattle.std.proofs.Common.{◌≡◌, ◌≤◌, ◌++◌, ◌-◌, take, drop, length}
use Rattle.std.specs.List.{filter}
use Rattle.search_moves.specs.Trying.{is_applicable}
use Rattle.search_moves.specs.Settings.{theory_of}
use Rattle.search_moves.proofs.setting.first_that_go.Given as goal

abbrev pub invariant-loop-k : goal.invariant-loop-k
invariant-loop-k l =
    (take l.kept l.rules.items ++ take (l.most - l.kept) (filter (is_applicable (theory_of l.at) l.at.judgement.now)
    (drop l.k l.rules.items)) ≡ take l.most (filter (is_applicable (theory_of l.at) l.at.judgement.now)
    l.fn.rules.items))
    × (l.kept ≤ l.k) × (length l.rules.items ≡ length l.fn.rules.items)
