use Rattle.std.proofs.Common.{◌≡◌, ◌≤◌, drop, length}
use Rattle.back_links.specs.Prospects.{opposite_in}
use Rattle.back_links.proofs.prospects.opposite_in.Given as goal

abbrev pub invariant-loop-i : goal.invariant-loop-i
invariant-loop-i l = (opposite_in l.n (drop l.i l.ts) (drop l.i l.us) ≡ opposite_in l.n l.ts l.us) × (l.i ≤ length l.us)
