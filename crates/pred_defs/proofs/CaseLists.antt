-- The cases of a predicate by its number.
use Rattle.std.proofs.Common.{◌≡◌, ℕ, zero, suc, ◌<◌, ◌≤◌, List, [], ◌∷◌, length, get_or, refl, arith}
use Rattle.heap_formula.specs.Definitions.{Definition}
use Rattle.heap_formula.specs.Meaning.{cases_of}

pub cases_in : (ds : List Definition) (q : ℕ) (d : Definition) → q < length ds → cases_of ds q ≡ (get_or ds q d).cases
cases_in [] q d h = absurd (omega arith)
cases_in (x ∷ ds) zero d h = refl
cases_in (x ∷ ds) (suc q) d h = cases_in ds q d (omega arith)

pub cases_past : (ds : List Definition) (q : ℕ) → length ds ≤ q → cases_of ds q ≡ []
cases_past [] q h = refl
cases_past (x ∷ ds) zero h = absurd (omega arith)
cases_past (x ∷ ds) (suc q) h = cases_past ds q (omega arith)
