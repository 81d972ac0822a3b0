use Rattle.std.proofs.Common.{ℕ, ◌≡◌, ◌<◌, ◌||◌, List, true}
use Rattle.buchi_core.specs.Forest.{Pair, leads}
use Rattle.buchi_core.specs.Moves.{AreMoves}
use Rattle.buchi_core.specs.View.{members}
use Rattle.cyc_basics.specs.Bits.{is_one}
use Rattle.cyc_basics.specs.declared.limits.TheConstants.{MOST_POSITIONS}
use Rattle.buchi_core.proofs.masks.targets_of.Given as goal

abbrev pub invariant-loop-rest : goal.invariant-loop-rest
invariant-loop-rest l = record {
  known : (p : ℕ) → p < MOST_POSITIONS → is_one l.rest p ≡ true → is_one l.table.sources p ≡ true;
  led : (pairs : List Pair) → AreMoves pairs l.table → (q : ℕ) → q < MOST_POSITIONS
      → (is_one l.targets q || leads pairs (members l.rest) q) ≡ leads pairs (members l.set) q;
}

abbrev pub decreases-loop-rest : goal.decreases-loop-rest
decreases-loop-rest l = l.rest
