-- The first cell at a term, counted from a place on.
use Rattle.std.proofs.Common.{◌≡◌, ℕ, suc, Bool, true, false, cond, List, [], ◌∷◌, Option, Some, None, refl, ap, ◌∙◌}
use Rattle.std.proofs.Common.{subst, ◌<◌, length}
use Rattle.std.specs.Prelude.{MatchOption}
use Rattle.std.proofs.lemmas.Option.{slice_get_within}
use Rattle.heap_formula.specs.declared.terms.Term.{Term}
use Rattle.heap_formula.specs.declared.atoms.Pure.{Pure}
use Rattle.heap_formula.specs.declared.atoms.Spatial.{Spatial}
use Rattle.heap_formula.specs.declared.atoms.Spatial.TheVariants.{Cell, Pred}
use Rattle.rule_table.specs.ExecTable.{Found, later, cell_of}
use Rattle.rule_table.specs.Tests.{equated}
use Rattle.rule_table.proofs.Commands.{found_is}
use Rattle.symbolic_exec.specs.Cells.{found_of, or_later, cell_from}
use Rattle.symbolic_exec.specs.declared.cells.FoundCell.{FoundCell}

abbrev cell : ℕ → Term → List Term → Found
cell k u us = record { place = k; address = u; fields = us }

own_or_later : (b : Bool) (k : ℕ) (u : Term) (us : List Term) (o p : Option Found) → o ≡ later p
    → or_later (cond b (Some (cell (suc k) u us)) None) o ≡ later (or_later (cond b (Some (cell k u us)) None) p)
own_or_later true k u us o p e = refl
own_or_later false k u us o p e = e

one_place_on : (k : ℕ) (pures : List Pure) (t : Term) (xs : List Spatial)
    → cell_from (suc k) pures t xs ≡ later (cell_from k pures t xs)
one_place_on k pures t [] = refl
one_place_on k pures t (Pred q us ∷ xs) = one_place_on (suc k) pures t xs
one_place_on k pures t (Cell u us ∷ xs) =
    own_or_later (equated pures u t) k u us (cell_from (suc (suc k)) pures t xs) (cell_from (suc k) pures t xs)
    (one_place_on (suc k) pures t xs)

own_or_first : (b : Bool) (c : Found) (o p : Option Found) → o ≡ p
    → or_later (cond b (Some c) None) o ≡ cond b (Some c) p
own_or_first true c o p e = refl
own_or_first false c o p e = e

from_first_place : (pures : List Pure) (t : Term) (xs : List Spatial) → cell_from 0 pures t xs ≡ cell_of pures t xs
from_first_place pures t [] = refl
from_first_place pures t (Pred q us ∷ xs) = one_place_on 0 pures t xs ∙ ap later (from_first_place pures t xs)
from_first_place pures t (Cell u us ∷ xs) =
    own_or_first (equated pures u t) (cell 0 u us) (cell_from 1 pures t xs) (later (cell_of pures t xs))
    (one_place_on 0 pures t xs ∙ ap later (from_first_place pures t xs))

pub found_in : (r : Option FoundCell) (ps qs : List Pure) (t : Term) (xs ys : List Spatial) → ps ≡ qs → xs ≡ ys
    → MatchOption r (cell_from 0 ps t xs ≡ None) (λ c. cell_from 0 ps t xs ≡ Some (found_of c))
    → MatchOption r (cell_of qs t ys ≡ None) (λ c. cell_of qs t ys ≡ Some (found_of c))
found_in r ps qs t xs ys e f h =
    subst (λ (o : Option Found). MatchOption r (o ≡ None) (λ c. o ≡ Some (found_of c)))
    ((λ i. cell_from 0 (e i) t (f i)) ∙ from_first_place qs t ys) h

-- its place is one of the list's
pub place_within : (pures : List Pure) (t : Term) (xs : List Spatial) (c : Found) → cell_of pures t xs ≡ Some c
    → c.place < length xs
place_within pures t xs c e = slice_get_within xs c.place (Cell c.address c.fields) (found_is pures t xs c e).at
