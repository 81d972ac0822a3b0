-- Numbers of variables and of locals.
use Rattle.std.specs.Prelude.{ℕ, ◌+◌, max, List, map}
use Rattle.heap_formula.specs.Words.{max_of}
use Rattle.fo_formula.specs.declared.terms.Sign.{Sign}
use Rattle.fo_formula.specs.declared.terms.Sign.TheVariants.{Universal, Local, Constructor}
use Rattle.fo_formula.specs.declared.atoms.FoAtom.{FoAtom}
use Rattle.fo_formula.specs.declared.atoms.FoAtom.TheVariants.{Equation, Predicate}
use Rattle.fo_formula.specs.declared.sequents.FoSequent.{FoSequent}
use Rattle.fo_formula.specs.declared.numbers.Kind.{Kind}
use Rattle.fo_formula.specs.declared.numbers.Kind.TheVariants.{Variables, Locals}
use Rattle.fo_formula.specs.Words.{Word}

-- 1 plus the number of a sign of this kind, 0 of another sign
abbrev pub sign_bound : Kind → Sign → ℕ
sign_bound Variables (Universal n) = n + 1
sign_bound Variables (Local n) = 0
sign_bound Variables (Constructor c k) = 0
sign_bound Locals (Universal n) = 0
sign_bound Locals (Local n) = n + 1
sign_bound Locals (Constructor c k) = 0

-- 1 plus the greatest number of this kind in a word, in words, in an atom, in atoms; 0 if there is none
abbrev pub word_bound : Kind → Word → ℕ
word_bound kind w = max_of (map (sign_bound kind) w)

abbrev pub words_bound : Kind → List Word → ℕ
words_bound kind ws = max_of (map (word_bound kind) ws)

abbrev pub atom_bound : Kind → FoAtom → ℕ
atom_bound kind (Equation l r) = max (word_bound kind l) (word_bound kind r)
atom_bound kind (Predicate p ts) = words_bound kind ts

abbrev pub atoms_bound : Kind → List FoAtom → ℕ
atoms_bound kind xs = max_of (map (atom_bound kind) xs)

-- the least number above every variable of the sequent
abbrev pub sequent_bound : FoSequent → ℕ
sequent_bound s = max (atoms_bound Variables s.left) (atoms_bound Variables s.right)
