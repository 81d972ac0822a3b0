use Rattle.std.proofs.Common.{◌≡◌, ◌≤◌, drop, length}
use Rattle.back_links.specs.Prospects.{could_equal_all}
use Rattle.back_links.proofs.prospects.could_equal_all.Given as goal

abbrev pub invariant-loop-i : goal.invariant-loop-i
invariant-loop-i l = (could_equal_all l.pures l.pairs (drop l.i l.ts) (drop l.i l.us)
    ≡ could_equal_all l.pures l.pairs l.ts l.us) × (l.i ≤ length l.us)
