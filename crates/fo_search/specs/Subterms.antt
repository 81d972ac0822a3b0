-- The subterms of a sequent, and lists of them.
use Rattle.std.specs.Prelude.{ℕ, List, [], ◌∷◌, ◌++◌, replicate, if◌then◌else◌}
use Rattle.std.specs.List.{list_any, flat_map}
use Rattle.fo_formula.specs.declared.atoms.FoAtom.{FoAtom}
use Rattle.fo_formula.specs.declared.atoms.FoAtom.TheVariants.{Equation, Predicate}
use Rattle.fo_formula.specs.declared.sequents.FoSequent.{FoSequent}
use Rattle.fo_formula.specs.Words.{Word, first_term}
use Rattle.fo_formula.specs.Tests.{same_word}
use Rattle.back_links.specs.Listing.{selections}

-- the terms of an atom, of a sequent: the left atoms' first
abbrev pub terms_of_atom : FoAtom → List Word
terms_of_atom (Equation l r) = l ∷ r ∷ []
terms_of_atom (Predicate p ts) = ts

abbrev pub terms_of : FoSequent → List Word
terms_of s = flat_map terms_of_atom (s.left ++ s.right)

-- the term that begins at each sign of a word
abbrev pub parts_of : Word → List Word
parts_of [] = []
parts_of (s ∷ w) = first_term (s ∷ w) ∷ parts_of w

-- those of each term of the atoms
abbrev pub parts_of_atoms : List FoAtom → List Word
parts_of_atoms xs = flat_map parts_of (flat_map terms_of_atom xs)

-- each word once, where it comes first; these are done already
abbrev pub once : List Word → List Word → List Word
once done [] = done
once done (w ∷ ws) = if list_any (same_word w) done then once done ws else once (done ++ w ∷ []) ws

-- the subterms of a sequent by first occurrence, a term before its parts
abbrev pub subterms : FoSequent → List Word
subterms s = once [] (flat_map parts_of (terms_of s))

-- the lists of k of the words, in lexicographic order
abbrev pub lists_of : ℕ → List Word → List (List Word)
lists_of k ws = selections (replicate k ws)
