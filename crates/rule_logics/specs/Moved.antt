-- Positions that move together, and stages along their pairs.
use Rattle.std.proofs.Common.{◌≡◌, ℕ, zero, suc, ◌+◌, ◌<◌, ◌≤◌, Bool, true, false, List, [], ◌∷◌, None, Some}
use Rattle.std.proofs.Common.{subst}
use Rattle.std.proofs.lemmas.Option.{same_Some}
use Rattle.trace_pairs.specs.Graph.{Pair, Falls}

-- the position i behind old with that behind new, and n - 1 more
unfoldable pub moved : ℕ → ℕ → ℕ → ℕ → List Pair
moved zero i old new = []
moved (suc n) i old new = (old + i, new + i, false) ∷ moved n (suc i) old new

-- no pair, and one pair more
pub none_falls : (σ τ : ℕ → ℕ) → Falls [] σ τ
none_falls σ τ i p at = absurd (let e : None ≡ Some p = at in cc)

pub also_falls : (a b : ℕ) (t : Bool) (ps : List Pair) (σ τ : ℕ → ℕ) → τ b ≤ σ a → (t ≡ true → τ b < σ a) → Falls ps σ τ
    → Falls ((a, b, t) ∷ ps) σ τ
also_falls a b t ps σ τ le lt h zero p at =
    let pair : Pair = (a, b, t) in subst (λ (q : Pair). (τ q.1 ≤ σ q.0) × (q.2 ≡ true → τ q.1 < σ q.0))
    (same_Some pair p at) (le, lt)
also_falls a b t ps σ τ le lt h (suc i) p at = h i p at

-- stages that stay as positions move
pub moved_falls : (n i old new : ℕ) (σ τ : ℕ → ℕ) → ((k : ℕ) → τ (new + k) ≤ σ (old + k))
    → Falls (moved n i old new) σ τ
unfolding moved
moved_falls zero i old new σ τ h = none_falls σ τ
moved_falls (suc n) i old new σ τ h =
    also_falls (old + i) (new + i) false (moved n (suc i) old new) σ τ (h i)
    (λ t. absurd (let e : false ≡ true = t in cc)) (moved_falls n (suc i) old new σ τ h)
