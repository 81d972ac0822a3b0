use Rattle.std.proofs.Common.{ℕ, ◌≡◌, ◌<◌, ◌||◌, [], ◌∷◌, drop}
use Rattle.buchi_core.specs.Forest.{leads, progressing}
use Rattle.buchi_core.specs.Moves.{leads_by}
use Rattle.cyc_basics.specs.declared.limits.TheConstants.{MOST_POSITIONS}
use Rattle.buchi_core.proofs.masks.set_moves.Given as goal

abbrev pub invariant-loop-pair : goal.invariant-loop-pair
invariant-loop-pair l = record {
  all : (p q : ℕ) → p < MOST_POSITIONS → q < MOST_POSITIONS
      → (leads_by l.moves.all p q || leads (drop l.pair-index l.pairs) (p ∷ []) q) ≡ leads l.pairs (p ∷ []) q;
  progress : (p q : ℕ) → p < MOST_POSITIONS → q < MOST_POSITIONS
      → (leads_by l.moves.progress p q || leads (progressing (drop l.pair-index l.pairs)) (p ∷ []) q)
      ≡ leads (progressing l.pairs) (p ∷ []) q;
}
