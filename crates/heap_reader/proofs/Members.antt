-- The members of a list that fits fit.
use Rattle.std.proofs.Common.{List, [], ◌∷◌}
use Rattle.heap_formula.specs.Words.{Each}
use Rattle.cyc_grammar.specs.Syntax.{Syntax, Class, after, fits_many}

pub many_fit : {A : Type 0} (a : Syntax A) (xs : List A) → fits_many a xs → Each a.fits xs
many_fit a [] f = tt
many_fit a (x ∷ xs) f = (f.0, many_fit a xs f.1)

pub behind_fit : {A : Type 0} (c : Class (Unit {0})) (a : Syntax A) (xs : List A) → fits_many (after c a) xs
    → Each a.fits xs
behind_fit c a xs f = many_fit (after c a) xs f
