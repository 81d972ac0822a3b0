-- In a list without a flaw no member has one, and the first heading with a name stands at its place.
use Rattle.std.proofs.Common.{◌≡◌, ℕ, zero, suc, ◌+◌, Bool, true, false, List, [], ◌∷◌, take, Some, None, refl, ap}
use Rattle.std.proofs.Common.{subst, arith}
use Rattle.std.specs.Prelude.{if◌then◌else◌, slice_get}
use Rattle.std.specs.Str.{bytes_eq}
use Rattle.std.proofs.lemmas.Slice.Eq.{bytes_eq-Decides}
use Rattle.heap_reader.specs.Trees.{Heading}
use Rattle.heap_reader.specs.Flaws.{Found, listed_flaw, arity_in}
use Rattle.heap_reader.specs.Values.{place_of}
use Rattle.heap_reader.proofs.NoFlaw.{neither}

-- a member of a list without a flaw has none
pub flaw_at : {X : Type 0} (flaw : ℕ → ℕ → X → Found) (span : X → ℕ) (n k : ℕ) (xs : List X) (p : ℕ) (x : X)
    → slice_get xs p ≡ Some x → listed_flaw flaw span n k xs ≡ None → (j : ℕ) × (flaw (n + p) j x ≡ None)
flaw_at flaw span n k [] p x e none = absurd cc
flaw_at flaw span n k (y ∷ ys) zero x e none =
    let both = neither (flaw n k y) (listed_flaw flaw span (suc n) (k + span y) ys) none in
    let same : y ≡ x = cc in
    let here : n ≡ n + 0 = omega arith in
    (k, subst (λ z. flaw (n + 0) k z ≡ None) same (subst (λ m. flaw m k y ≡ None) here both.0))
flaw_at flaw span n k (y ∷ ys) (suc p) x e none =
    let both = neither (flaw n k y) (listed_flaw flaw span (suc n) (k + span y) ys) none in
    let rest = flaw_at flaw span (suc n) (k + span y) ys p x e both.1 in
    let here : suc n + p ≡ n + suc p = omega arith in
    (rest.0, subst (λ m. flaw m rest.0 x ≡ None) here rest.1)

own_place : (y : Heading) (ys : List Heading) (name : List ℕ) (b : Bool) → y.name ≡ name → bytes_eq y.name name ≡ b
    → (if b then 0 else suc (place_of ys name)) ≡ 0
own_place y ys name true same e = refl
own_place y ys name false same e = let yes = (bytes_eq-Decides y.name name).1 same in absurd cc

later_place : (y : Heading) (front ys : List Heading) (name : List ℕ) (p : ℕ) (b : Bool)
    → (arity_in front name ≡ None → place_of ys name ≡ p) → (if b then Some y.arity else arity_in front name) ≡ None
    → (if b then 0 else suc (place_of ys name)) ≡ suc p
later_place y front ys name p true rest e = absurd cc
later_place y front ys name p false rest e = ap suc (rest e)

-- the first predicate with a name is that which has none before it
pub place_first : (ys : List Heading) (p : ℕ) (x : Heading) → slice_get ys p ≡ Some x
    → arity_in (take p ys) x.name ≡ None → place_of ys x.name ≡ p
place_first [] p x e none = absurd cc
place_first (y ∷ ys) zero x e none = let same : y ≡ x = cc in
    own_place y ys x.name (bytes_eq y.name x.name) (ap (λ (d : Heading). d.name) same) refl
place_first (y ∷ ys) (suc p) x e none =
    later_place y (take p ys) ys x.name p (bytes_eq y.name x.name) (place_first ys p x e) none
