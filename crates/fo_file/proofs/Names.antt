-- Names that are known have their places.
use Rattle.std.proofs.Common.{◌≡◌, ℕ, suc, Bool, true, false, List, [], ◌∷◌, map, Some, refl, ap}
use Rattle.std.specs.Prelude.{if◌then◌else◌, slice_get}
use Rattle.std.specs.Str.{bytes_eq}
use Rattle.std.proofs.lemmas.Slice.Eq.{bytes_eq-Decides}
use Rattle.heap_reader.specs.Trees.{Heading}
use Rattle.heap_reader.specs.Flaws.{arity_in}
use Rattle.heap_reader.specs.Values.{place_of}

abbrev pub heading_name : Heading → List ℕ
heading_name h = h.name

abbrev pub heading_arity : Heading → ℕ
heading_arity h = h.arity

first-or-later : {X : Type 0} (of : Heading → X) (h : Heading) (hs : List Heading) (name : List ℕ) (n : ℕ) (x : X)
    (b : Bool) → (b ≡ true → h.arity ≡ n → of h ≡ x) → (arity_in hs name ≡ Some n
    → slice_get (map of hs) (place_of hs name) ≡ Some x) → (if b then Some h.arity else arity_in hs name) ≡ Some n
    → slice_get (map of (h ∷ hs)) (if b then 0 else suc (place_of hs name)) ≡ Some x
first-or-later of h hs name n x true here later e =
    let same : h.arity ≡ n = cc in ap Some (here refl same)
first-or-later of h hs name n x false here later e = later e

-- the heading at the place of a known name has this name
pub name-there : (hs : List Heading) (name : List ℕ) (n : ℕ) → arity_in hs name ≡ Some n
    → slice_get (map heading_name hs) (place_of hs name) ≡ Some name
name-there [] name n e = absurd cc
name-there (h ∷ hs) name n e =
    first-or-later heading_name h hs name n name (bytes_eq h.name name) (λ b _. (bytes_eq-Decides h.name name).0 b)
    (name-there hs name n) e

-- and this number of arguments
pub arity-there : (hs : List Heading) (name : List ℕ) (n : ℕ) → arity_in hs name ≡ Some n
    → slice_get (map heading_arity hs) (place_of hs name) ≡ Some n
arity-there [] name n e = absurd cc
arity-there (h ∷ hs) name n e =
    first-or-later heading_arity h hs name n n (bytes_eq h.name name) (λ _ same. same) (arity-there hs name n) e
