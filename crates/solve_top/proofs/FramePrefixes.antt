-- Lists that begin with others, and the members behind a place.
use Rattle.std.proofs.Common.{◌≡◌, ◌∙◌, List, ◌++◌, ℕ, Bool, true, take, drop, sym, ap, take-append-drop}
use Rattle.std.proofs.lemmas.Slice.Eq.{slice_eq-Decides}
use Rattle.std.specs.Cmp.Lexicographic.{pointwise}
use Rattle.heap_formula.specs.declared.atoms.Pure.{Pure}
use Rattle.heap_formula.specs.contracts.atoms.PurePartialEq.TheImpl.{eq-value as pure_eq}
use Rattle.heap_formula.specs.declared.atoms.Spatial.{Spatial}
use Rattle.heap_formula.specs.contracts.atoms.SpatialPartialEq.TheImpl.{eq-value as spatial_eq}
use Rattle.heap_formula.proofs.Equal.{pure_eq-Decides, spatial_eq-Decides}

begun : {X : Type 0} (whole part : List X) (n : ℕ) → take n whole ≡ part → (rest : List X) × (whole ≡ part ++ rest)
begun whole part n e = (drop n whole, sym (take-append-drop n whole) ∙ ap (λ xs. xs ++ drop n whole) e)

pub pure_begun : (whole part : List Pure) (n : ℕ) (r : Bool) → r ≡ pointwise pure_eq.it (take n whole) part → r ≡ true
    → (rest : List Pure) × (whole ≡ part ++ rest)
pure_begun whole part n r e t = begun whole part n
    ((slice_eq-Decides pure_eq-Decides (take n whole) part r e).0 t)

pub spatial_begun : (whole part : List Spatial) (n : ℕ) (r : Bool) → r ≡ pointwise spatial_eq.it (take n whole) part
    → r ≡ true → (rest : List Spatial) × (whole ≡ part ++ rest)
spatial_begun whole part n r e t = begun whole part n
    ((slice_eq-Decides spatial_eq-Decides (take n whole) part r e).0 t)
