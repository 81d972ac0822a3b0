-- The comparisons decide equality.
use Rattle.std.proofs.Common.{◌≡◌, List, rules, refl, ap}
use Rattle.std.specs.Bool.{Decides}
use Rattle.std.proofs.lemmas.Bool.Decides.{Decides-eqb}
use Rattle.std.proofs.lemmas.Slice.Eq.{slice_eq-Decides}
use Rattle.std.specs.Cmp.Lexicographic.{pointwise}
use Rattle.heap_formula.proofs.Equal.{both_Decides}
use Rattle.fo_formula.specs.declared.terms.Sign.{Sign}
use Rattle.fo_formula.specs.declared.terms.Sign.TheVariants.{Universal, Local, Constructor}
use Rattle.fo_formula.specs.contracts.terms.SignPartialEq.TheImpl.{eq-value as sign_eq}
use Rattle.fo_formula.specs.declared.atoms.FoAtom.{FoAtom}
use Rattle.fo_formula.specs.declared.atoms.FoAtom.TheVariants.{Equation, Predicate}
use Rattle.fo_formula.specs.declared.sequents.FoSequent.{FoSequent}
use Rattle.fo_formula.specs.contracts.atoms.FoAtomPartialEq.TheImpl.{eq-value as atom_eq}
use Rattle.fo_formula.specs.contracts.sequents.FoSequentPartialEq.TheImpl.{eq-value as sequent_eq}
use Rattle.fo_formula.specs.Words.{Word}
use Rattle.fo_formula.specs.Equality.{word_eq}

pub sign_eq-Decides : (a b : Sign) → Decides (sign_eq.it a b) (a ≡ b)
sign_eq-Decides (Universal m) (Universal n) = let d = Decides-eqb m n in (λ e. ap Universal (d.0 e), λ e. d.1 (cc))
sign_eq-Decides (Universal m) (Local n) = search rules
sign_eq-Decides (Universal m) (Constructor c k) = search rules
sign_eq-Decides (Local m) (Universal n) = search rules
sign_eq-Decides (Local m) (Local n) = let d = Decides-eqb m n in (λ e. ap Local (d.0 e), λ e. d.1 (cc))
sign_eq-Decides (Local m) (Constructor c k) = search rules
sign_eq-Decides (Constructor c k) (Universal n) = search rules
sign_eq-Decides (Constructor c k) (Local n) = search rules
sign_eq-Decides (Constructor c k) (Constructor d m) =
    both_Decides _ _ (Decides-eqb c d) (Decides-eqb k m) (λ p q i. Constructor (p i) (q i)) (λ e. (cc, cc))

pub word_eq-Decides : (a b : Word) → Decides (word_eq a b) (a ≡ b)
word_eq-Decides a b = slice_eq-Decides sign_eq-Decides a b (pointwise sign_eq.it a b) refl

pub words_eq-Decides : (a b : List Word) → Decides (pointwise word_eq a b) (a ≡ b)
words_eq-Decides a b = slice_eq-Decides word_eq-Decides a b (pointwise word_eq a b) refl

pub atom_eq-Decides : (a b : FoAtom) → Decides (atom_eq.it a b) (a ≡ b)
atom_eq-Decides (Equation a b) (Equation c d) =
    both_Decides (word_eq a c) (word_eq b d) (word_eq-Decides a c) (word_eq-Decides b d) (λ p q i. Equation (p i) (q i))
    (λ e. (cc, cc))
atom_eq-Decides (Equation a b) (Predicate c d) = search rules
atom_eq-Decides (Predicate a b) (Equation c d) = search rules
atom_eq-Decides (Predicate a b) (Predicate c d) =
    both_Decides _ (pointwise word_eq b d) (Decides-eqb a c) (words_eq-Decides b d) (λ p q i. Predicate (p i) (q i))
    (λ e. (cc, cc))

pub atoms_eq-Decides : (a b : List FoAtom) → Decides (pointwise atom_eq.it a b) (a ≡ b)
atoms_eq-Decides a b = slice_eq-Decides atom_eq-Decides a b (pointwise atom_eq.it a b) refl

pub sequent_eq-Decides : (a b : FoSequent) → Decides (sequent_eq.it a b) (a ≡ b)
sequent_eq-Decides a b =
    both_Decides (pointwise atom_eq.it a.left b.left) (pointwise atom_eq.it a.right b.right)
    (atoms_eq-Decides a.left b.left) (atoms_eq-Decides a.right b.right)
    (λ p q i. record { left = p i; right = q i }) (λ e. (ap (λ s. s.left) e, ap (λ s. s.right) e))
