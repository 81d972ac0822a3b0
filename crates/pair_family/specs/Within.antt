-- Base pairs of numbers below a bound.
use Rattle.std.specs.Prelude.{ℕ, ◌<◌, List}
use Rattle.heap_formula.specs.Words.{Each}
use Rattle.pair_family.specs.BasePairs.{BasePair}

abbrev pub AreWithin : ℕ → List (ℕ × ℕ) → Type 0
AreWithin n qs = Each (λ q. (q.0 < n) × (q.1 < n)) qs

abbrev pub AreBelow : ℕ → List ℕ → Type 0
AreBelow n is = Each (λ i. i < n) is

-- a base pair's numbers are below n
pub record IsWithin (n : ℕ) (b : BasePair) : Type 0 where
  pub same : AreWithin n b.same
  pub differ : AreWithin n b.differ
  pub cells : AreBelow n b.cells
