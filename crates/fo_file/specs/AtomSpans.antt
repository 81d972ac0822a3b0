-- How many tokens atoms have, the one token after a part counted in, and how many terms.
use Rattle.std.specs.Prelude.{ℕ, ◌+◌, List, [], ◌∷◌, length}
use Rattle.heap_formula.specs.Words.{Each}
use Rattle.heap_reader.specs.Spans.{total, total_or}
use Rattle.fo_syntax.specs.Trees.{Sign, Atom, Equation, Predicate}
use Rattle.fo_syntax.specs.Grammar.{IsTerm, IsApplication}
use Rattle.fo_syntax.specs.Places.{tokens_in}

abbrev pub atom_span : Atom → ℕ
atom_span (Equation t u) = tokens_in t + 1 + tokens_in u + 1
atom_span (Predicate t) = tokens_in t + 1

abbrev pub total_span : List Atom → ℕ
total_span xs = total atom_span xs

-- one word where there is no atom
abbrev pub atoms_span : List Atom → ℕ
atoms_span xs = total_or 2 atom_span xs

-- variables and applications; a predicate is none
abbrev pub behind_first : List Sign → ℕ
behind_first [] = 0
behind_first (s ∷ ss) = length ss

abbrev pub terms_in : Atom → ℕ
terms_in (Equation t u) = length t + length u
terms_in (Predicate t) = behind_first t

abbrev pub total_terms : List Atom → ℕ
total_terms xs = total terms_in xs

-- an atom of two terms, or of a predicate's name with its arguments
abbrev pub IsAtom : Atom → Type 0
IsAtom (Equation t u) = IsTerm t × IsTerm u
IsAtom (Predicate t) = IsApplication t

abbrev pub AreAtoms : List Atom → Type 0
AreAtoms xs = Each IsAtom xs
