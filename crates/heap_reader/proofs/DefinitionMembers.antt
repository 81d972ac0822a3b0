-- The members of a list that fits fit.
use Rattle.std.proofs.Common.{Bool, List, [], ◌∷◌}
use Rattle.heap_formula.specs.Words.{Each}
use Rattle.cyc_grammar.specs.Syntax.{Syntax, Class, list1}
use Rattle.heap_syntax.specs.Grammar as shared
use Rattle.heap_syntax.specs.Words.{star}
use Rattle.heap_syntax.specs.DefinitionTrees.{Spatial}
use Rattle.heap_syntax.specs.DefinitionGrammar.{terms, spatial, spatials, some_spatial}
use Rattle.heap_reader.proofs.Members.{behind_fit}

pub list_fit : {A : Type 0} (d : A) (c : Class (Unit {0})) (a : Syntax A) (xs : List A) → (list1 d c a).fits xs
    → Each a.fits xs
list_fit d c a [] f = tt
list_fit d c a (x ∷ xs) f = (f.1.0, behind_fit c a xs f.1.1)

pub listed_fit : {A : Type 0} (d : A) (c behind : Class (Unit {0})) (a : Syntax A) (xs : List A)
    → (shared.listed d c behind a).fits xs → Each a.fits xs
unfolding shared.listed
listed_fit d c behind a [] f = tt
listed_fit d c behind a (x ∷ xs) f = (f.1.0, behind_fit c a xs f.1.1)

pub spatials_fit : (b : Bool) (xs : List Spatial) → (spatials (terms b)).fits xs → Each (spatial (terms b)).fits xs
unfolding shared.spatials shared.spatials1
spatials_fit b [] f = tt
spatials_fit b (x ∷ xs) f = list_fit some_spatial star (spatial (terms b)) (x ∷ xs) f.1
