-- What a found derivation is.
use Rattle.std.specs.Prelude.{ℕ, ◌≡◌, false, ◌+◌, ◌<◌, ◌≤◌, List, Some, None, find, slice_get}
use Rattle.derivations.specs.System.{System, partial}

pub record IsIn {X : Type 0} (xs : List X) (x : X) : Type 0 where
  pub place : ℕ
  pub at : slice_get xs place ≡ Some x

-- d is the first complete partial derivation of the least depth, of the n from e on, that has one
pub record FirstFound {R : Type 0} (s : System R) (e n : ℕ) (d : List R) : Type 0 where
  pub depth : ℕ
  pub low : e ≤ depth
  pub high : depth < e + n
  pub first : find s.complete (partial s depth) ≡ Some d
  pub few : s.above d ≡ false
  pub none : (k : ℕ) → e ≤ k → k < depth → find s.complete (partial s k) ≡ None
