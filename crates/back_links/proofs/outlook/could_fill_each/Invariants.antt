use Rattle.std.proofs.Common.{◌≡◌, ◌-◌, length}
use Rattle.std.specs.List.{list_all, range_with_len}
use Rattle.back_links.specs.Outlook.{could_fill}
use Rattle.back_links.proofs.outlook.could_fill_each.Given as goal

abbrev pub invariant-loop-m : goal.invariant-loop-m
invariant-loop-m l = list_all (could_fill l.pures l.atoms l.pairs l.places l.xs)
    (range_with_len l.m (length l.atoms - l.m)) ≡ list_all (could_fill l.pures l.atoms l.pairs l.places l.xs)
    (range_with_len 0 (length l.atoms))
