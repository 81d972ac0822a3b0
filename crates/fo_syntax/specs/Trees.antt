-- Terms and atoms without where they lie in memory. A term is its word in prefix notation (Łukasiewicz 1929).
use Rattle.std.specs.Prelude.{ℕ, zero, suc, ◌+◌, List, [], ◌∷◌, map}
use Rattle.fo_syntax.specs.declared.terms.tree.SignTree.{SignTree}
use Rattle.fo_syntax.specs.declared.terms.tree.SignTree.TheVariants as signs
use Rattle.fo_syntax.specs.declared.terms.tree.AtomTree.{AtomTree}
use Rattle.fo_syntax.specs.declared.terms.tree.AtomTree.TheVariants as atoms

-- a variable, a local of a case, or a name with its number of arguments, which come next
pub data Sign : Type 0 where
  Variable : ℕ → Sign
  Local : ℕ → Sign
  Apply : List ℕ → ℕ → Sign

-- how many terms come after a sign
abbrev pub arguments_of : Sign → ℕ
arguments_of (Variable n) = 0
arguments_of (Local n) = 0
arguments_of (Apply name n) = n

-- the signs are those of so many terms, one after the other
abbrev pub AreTerms : ℕ → List Sign → Type 0
AreTerms zero [] = Unit {0}
AreTerms zero (s ∷ ss) = ⊥
AreTerms (suc n) [] = ⊥
AreTerms (suc n) (s ∷ ss) = AreTerms (n + arguments_of s) ss

-- an equation of two terms, or a predicate's name with its arguments, which is a term's word
pub data Atom : Type 0 where
  Equation : List Sign → List Sign → Atom
  Predicate : List Sign → Atom

-- ---- what a contract sees of the code's trees

abbrev pub sign_of : SignTree → Sign
sign_of (signs.Variable n) = Variable n
sign_of (signs.Local n) = Local n
sign_of (signs.Apply name n) = Apply name.now n

abbrev pub atom_of : AtomTree → Atom
atom_of (atoms.Equation left right) = Equation (map sign_of left.items) (map sign_of right.items)
atom_of (atoms.Predicate term) = Predicate (map sign_of term.items)
