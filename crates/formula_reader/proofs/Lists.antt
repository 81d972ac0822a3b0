-- Lists whose members fit, or are without a flaw.
use Rattle.std.proofs.Common.{◌≡◌, ℕ, suc, ◌+◌, ◌<◌, ◌≤◌, List, [], ◌∷◌, map, length, None, refl, arith}
use Rattle.heap_formula.specs.Words.{Each}
use Rattle.cyc_grammar.specs.Syntax.{Syntax, Class, after, list1, fits_many}
use Rattle.heap_syntax.specs.Grammar as shared
pub use Rattle.heap_reader.proofs.NoFlaw.{none_later}
use Rattle.heap_reader.specs.Flaws.{Found, listed_flaw}

-- ---- members

-- two facts of each member give a third
pub each_of_both : {X : Type 0} (P Q R : X → Type 0) → ((x : X) → P x → Q x → R x) → (xs : List X) → Each P xs
    → Each Q xs → Each R xs
each_of_both P Q R g [] e d = tt
each_of_both P Q R g (x ∷ xs) e d = (g x e.0 d.0, each_of_both P Q R g xs e.1 d.1)

-- ---- members that fit

module _ {X Y : Type 0} (a : Syntax Y) (tree : X → Y) where
  pub many_fit : (xs : List X) → Each (λ x. a.fits (tree x)) xs → fits_many a (map tree xs)
  many_fit [] e = tt
  many_fit (x ∷ xs) e = (e.0, many_fit xs e.1)

  behind_fit : (c : Class (Unit {0})) (xs : List X) → Each (λ x. a.fits (tree x)) xs
      → fits_many (after c a) (map tree xs)
  behind_fit c [] e = tt
  behind_fit c (x ∷ xs) e = (e.0, behind_fit c xs e.1)

  pub list_fits : (d : Y) (c : Class (Unit {0})) (xs : List X) → 0 < length xs → Each (λ x. a.fits (tree x)) xs
      → (list1 d c a).fits (map tree xs)
  list_fits d c [] some e = absurd (omega arith)
  list_fits d c (x ∷ xs) some e = (omega arith, (e.0, behind_fit c xs e.1))

  pub listed_fits : (d : Y) (c behind : Class (Unit {0})) (xs : List X) → 0 < length xs → Each (λ x. a.fits (tree x)) xs
      → (shared.listed d c behind a).fits (map tree xs)
  unfolding shared.listed
  listed_fits d c behind [] some e = absurd (omega arith)
  listed_fits d c behind (x ∷ xs) some e = (omega arith, (e.0, behind_fit c xs e.1))

-- ---- members without a flaw

-- at most so many members, each without a flaw at such a place
pub none_listed : {X Y : Type 0} (flaw : ℕ → ℕ → Y → Found) (span : Y → ℕ) (tree : X → Y) (P : X → Type 0) (most : ℕ)
    → ((n k : ℕ) (x : X) → n < most → P x → flaw n k (tree x) ≡ None) → (n k : ℕ) (xs : List X) → n + length xs ≤ most
    → Each P xs → listed_flaw flaw span n k (map tree xs) ≡ None
none_listed flaw span tree P most one n k [] few e = refl
none_listed flaw span tree P most one n k (x ∷ xs) few e =
    none_later (flaw n k (tree x)) (listed_flaw flaw span (suc n) (k + span (tree x)) (map tree xs))
    (one n k x (omega arith) e.0) (none_listed flaw span tree P most one (suc n) (k + span (tree x)) xs
    (omega arith) e.1)
