use Rattle.std.proofs.Common.{◌≡◌, ◌≤◌, drop, length}
use Rattle.rule_table.specs.LinkTable.{all_equated}
use Rattle.back_links.proofs.matching.all_equated.Given as goal

abbrev pub invariant-loop-i : goal.invariant-loop-i
invariant-loop-i l = (all_equated l.pures (drop l.i l.ts) (drop l.i l.us) ≡ all_equated l.pures l.ts l.us)
    × (l.i ≤ length l.us)
