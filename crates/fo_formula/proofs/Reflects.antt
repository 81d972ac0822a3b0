-- What the tests mean.
use Rattle.std.proofs.Common.{◌≡◌, ◌↔◌, ℕ, Bool, true, [], ◌∷◌, Some, refl, ap, subst}
use Rattle.std.specs.Prelude.{nat_eq}
use Rattle.std.proofs.lemmas.Bool.{and_parts, and_from, eqb-true, eq-eqb}
use Rattle.std.specs.Cmp.Lexicographic.{pointwise}
use Rattle.fo_formula.specs.declared.terms.Sign.{Sign}
use Rattle.fo_formula.specs.declared.terms.Sign.TheVariants.{Universal, Local, Constructor}
use Rattle.fo_formula.specs.declared.atoms.FoAtom.{FoAtom}
use Rattle.fo_formula.specs.declared.atoms.FoAtom.TheVariants.{Equation, Predicate}
use Rattle.fo_formula.specs.declared.sequents.FoSequent.{FoSequent}
use Rattle.fo_formula.specs.Words.{Word}
use Rattle.fo_formula.specs.Tests.{same_sign, same_word, same_atom, same_sequent, only_variable}
use Rattle.cyc_basics.proofs.Tests.{bool_same, pointwise_is, pointwise_self}

pub sign_is : (s t : Sign) → same_sign s t ≡ true → s ≡ t
sign_is (Universal m) (Universal n) e = ap Universal (eqb-true m n e)
sign_is (Universal m) (Local n) e = cc
sign_is (Universal m) (Constructor c k) e = cc
sign_is (Local m) (Universal n) e = cc
sign_is (Local m) (Local n) e = ap Local (eqb-true m n e)
sign_is (Local m) (Constructor c k) e = cc
sign_is (Constructor c k) (Universal n) e = cc
sign_is (Constructor c k) (Local n) e = cc
sign_is (Constructor c k) (Constructor d m) e =
    let b = and_parts (nat_eq c d) (nat_eq k m) e in
    let p = eqb-true c d b.0 in
    let q = eqb-true k m b.1 in λ i. Constructor (p i) (q i)

pub sign_self : (s : Sign) → same_sign s s ≡ true
sign_self (Universal n) = eq-eqb n n refl
sign_self (Local n) = eq-eqb n n refl
sign_self (Constructor c k) = and_from (nat_eq c c) (nat_eq k k) (eq-eqb c c refl) (eq-eqb k k refl)

pub word_is : (a b : Word) → same_word a b ≡ true → a ≡ b
word_is a b e = pointwise_is same_sign sign_is a b e

pub word_self : (a : Word) → same_word a a ≡ true
word_self a = pointwise_self same_sign sign_self a

pub atom_is : (x y : FoAtom) → same_atom x y ≡ true → x ≡ y
atom_is (Equation a b) (Equation c d) e =
    let r = and_parts (same_word a c) (same_word b d) e in
    let p = word_is a c r.0 in
    let q = word_is b d r.1 in λ i. Equation (p i) (q i)
atom_is (Equation a b) (Predicate p ts) e = cc
atom_is (Predicate p ts) (Equation a b) e = cc
atom_is (Predicate p ts) (Predicate q us) e =
    let r = and_parts (nat_eq p q) (pointwise same_word ts us) e in
    let a = eqb-true p q r.0 in
    let b = pointwise_is same_word word_is ts us r.1 in λ i. Predicate (a i) (b i)

pub atom_self : (x : FoAtom) → same_atom x x ≡ true
atom_self (Equation a b) = and_from (same_word a a) (same_word b b) (word_self a) (word_self b)
atom_self (Predicate p ts) =
    and_from (nat_eq p p) (pointwise same_word ts ts) (eq-eqb p p refl) (pointwise_self same_word word_self ts)

pub sequent_is : (s u : FoSequent) → same_sequent s u ≡ true → s ≡ u
sequent_is s u e =
    let r = and_parts (pointwise same_atom s.left u.left) (pointwise same_atom s.right u.right) e in
    let p = pointwise_is same_atom atom_is s.left u.left r.0 in
    let q = pointwise_is same_atom atom_is s.right u.right r.1 in λ i. record { left = p i; right = q i }

pub sequent_self : (s : FoSequent) → same_sequent s s ≡ true
sequent_self s =
    and_from (pointwise same_atom s.left s.left) (pointwise same_atom s.right s.right)
    (pointwise_self same_atom atom_self s.left) (pointwise_self same_atom atom_self s.right)

pub only_is : (w : Word) (n : ℕ) → only_variable w ≡ Some n → w ≡ Universal n ∷ []
only_is [] n e = absurd cc
only_is (Universal m ∷ []) n e = let same : m ≡ n = cc in ap (λ k. Universal k ∷ []) same
only_is (Universal m ∷ s ∷ w) n e = absurd cc
only_is (Local m ∷ w) n e = absurd cc
only_is (Constructor c k ∷ w) n e = absurd cc

-- a test that decides equality is the table's
pub decided : {X : Type 0} (same : X → X → Bool) → ((x y : X) → same x y ≡ true → x ≡ y) → ((x : X) → same x x ≡ true)
    → (r : Bool) (x y : X) → ((r ≡ true) ↔ (x ≡ y)) → r ≡ same x y
decided same one self r x y d =
    bool_same r (same x y) (λ e. subst (λ z. same x z ≡ true) (d.0 e) (self x)) (λ e. d.1 (one x y e))
