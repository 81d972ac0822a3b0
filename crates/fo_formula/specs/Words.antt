-- Terms as words, and words in place of signs.
use Rattle.std.specs.Prelude.{ℕ, zero, suc, ◌+◌, List, [], ◌∷◌, ◌++◌, take, drop, map}
use Rattle.fo_formula.specs.declared.terms.Sign.{Sign}
use Rattle.fo_formula.specs.declared.terms.Sign.TheVariants.{Universal, Local, Constructor}
use Rattle.fo_formula.specs.declared.atoms.FoAtom.{FoAtom}
use Rattle.fo_formula.specs.declared.atoms.FoAtom.TheVariants.{Equation, Predicate}

abbrev pub Word : Type 0
Word = List Sign

-- how many terms follow a sign as its arguments
abbrev pub arity : Sign → ℕ
arity (Universal n) = 0
arity (Local n) = 0
arity (Constructor c k) = k

-- the word is n terms, one after another
abbrev pub AreTerms : ℕ → Word → Type 0
AreTerms zero [] = Unit {0}
AreTerms zero (s ∷ w) = ⊥
AreTerms (suc n) [] = ⊥
AreTerms (suc n) (s ∷ w) = AreTerms (arity s + n) w

abbrev pub IsTerm : Word → Type 0
IsTerm w = AreTerms 1 w

-- how many signs the first n terms of a word have
abbrev pub end_of : ℕ → Word → ℕ
end_of zero w = 0
end_of (suc n) [] = 0
end_of (suc n) (s ∷ w) = suc (end_of (arity s + n) w)

-- the first term of a word, and what stands after it
abbrev pub first_term : Word → Word
first_term w = take (end_of 1 w) w

abbrev pub after_first : Word → Word
after_first w = drop (end_of 1 w) w

-- the word with a word in place of each sign
abbrev pub replaced : (Sign → Word) → Word → Word
replaced f [] = []
replaced f (s ∷ w) = f s ++ replaced f w

-- the atom with a word in place of each sign of its terms
abbrev pub in_atom : (Sign → Word) → FoAtom → FoAtom
in_atom f (Equation l r) = Equation (replaced f l) (replaced f r)
in_atom f (Predicate p ts) = Predicate p (map (replaced f) ts)

-- the first constructor alone, which takes no arguments
abbrev pub first_constant : Word
first_constant = Constructor 0 0 ∷ []
