-- A heap that passes the test has universal terms alone.
use Rattle.std.proofs.Common.{◌≡◌, Bool, true, List, [], ◌∷◌}
use Rattle.std.specs.List.{list_all}
use Rattle.std.proofs.lemmas.Bool.{and_parts}
use Rattle.heap_formula.specs.Closedness.{IsUniversal, IsUniversalHeap, InPure, InSpatial}
use Rattle.heap_formula.specs.Symbolic.{SymbolicHeap}
use Rattle.heap_formula.specs.Words.{Each}
use Rattle.rule_table.specs.Tests.{is_universal_pure, is_universal_spatial, is_universal_heap}
use Rattle.rule_table.proofs.Reflects.{universal_pure_is, universal_spatial_is}

-- each member passes a test that all pass
pub each_passes : {X : Type 0} (p : X → Bool) (Q : X → Type 0) → ((x : X) → p x ≡ true → Q x) → (xs : List X)
    → list_all p xs ≡ true → Each Q xs
each_passes p Q one [] e = tt
each_passes p Q one (x ∷ xs) e = let b = and_parts (p x) (list_all p xs) e in (one x b.0, each_passes p Q one xs b.1)

pub universal_heap : (a : SymbolicHeap) → is_universal_heap a ≡ true → IsUniversalHeap a
universal_heap a e =
    let b = and_parts (list_all is_universal_pure a.pure) (list_all is_universal_spatial a.spatial) e in (
      each_passes is_universal_pure (InPure IsUniversal) universal_pure_is a.pure b.0,
      each_passes is_universal_spatial (InSpatial IsUniversal) universal_spatial_is a.spatial b.1,
    )
