use Rattle.std.proofs.Common.{◌≡◌, ◌-◌, length}
use Rattle.std.specs.List.{list_any, range_with_len}
use Rattle.back_links.specs.Outlook.{could_lie_at}
use Rattle.back_links.proofs.outlook.could_lie.Given as goal

abbrev pub invariant-loop-m : goal.invariant-loop-m
invariant-loop-m l = list_any (could_lie_at l.pures l.atoms l.pairs l.places l.x)
    (range_with_len l.m (length l.atoms - l.m)) ≡ list_any (could_lie_at l.pures l.atoms l.pairs l.places l.x)
    (range_with_len 0 (length l.atoms))
