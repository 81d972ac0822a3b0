-- What is kept of a list has a text where the list has one.
use Rattle.std.proofs.Common.{ℕ, zero, suc, List, [], ◌∷◌, take, arith}
use Rattle.std.specs.Prelude.{map}
use Rattle.cyc_grammar.specs.Syntax.{Syntax, Class, fits_many, after}
use Rattle.heap_syntax.specs.declared.keep.Keep.TheVariants.{Beyond}
use Rattle.heap_syntax.specs.Grammar.{listed}
use Rattle.heap_syntax.specs.Keeping.{members}

pub taken-fits : {A : Type 0} (a : Syntax A) (m : ℕ) (xs : List A) → fits_many a xs → fits_many a (take m xs)
taken-fits a zero [] f = tt
taken-fits a zero (x ∷ xs) f = tt
taken-fits a (suc m) [] f = tt
taken-fits a (suc m) (x ∷ xs) f = (f.0, taken-fits a m xs f.1)

mapped-fits : {A : Type 0} (a : Syntax A) (g : A → A) → ((x : A) → a.fits x → a.fits (g x)) → (xs : List A)
    → fits_many a xs → fits_many a (map g xs)
mapped-fits a g one [] f = tt
mapped-fits a g one (x ∷ xs) f = (one x f.0, mapped-fits a g one xs f.1)

pub listed-fits : {A : Type 0} (m : ℕ) (d : A) (between behind : Class (Unit {0})) (a : Syntax A) (xs : List A)
    → (listed d between behind a).fits xs → (listed d between behind a).fits (members (Beyond m) xs)
unfolding listed
listed-fits m d between behind a [] f = f
listed-fits m d between behind a (x ∷ xs) f = (omega arith, (f.1.0, taken-fits (after between a) m xs f.1.1))

pub all-fit : {A : Type 0} (g : A → A) (d : A) (between behind : Class (Unit {0})) (a : Syntax A)
    → ((x : A) → a.fits x → a.fits (g x)) → (xs : List A) → (listed d between behind a).fits xs
    → (listed d between behind a).fits (map g xs)
unfolding listed
all-fit g d between behind a one [] f = f
all-fit g d between behind a one (x ∷ xs) f = (omega arith, (one x f.1.0, mapped-fits (after between a) g one xs f.1.1))
