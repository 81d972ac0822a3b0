-- Terms in place of signs: terms stay terms of signs within the limits.
use Rattle.std.proofs.Common.{◌≡◌, ℕ, zero, suc, ◌+◌, ◌≤◌, Bool, true, false, List, [], ◌∷◌, map, subst, sym, refl}
use Rattle.std.proofs.Common.{eqb-true, arith}
use Rattle.std.specs.Prelude.{nat_eq, if◌then◌else◌}
use Rattle.std.proofs.lemmas.List.{length-map}
use Rattle.std.proofs.lemmas.Bool.{and_parts}
use Rattle.heap_formula.specs.Words.{Each}
use Rattle.fo_formula.specs.declared.terms.Sign.{Sign}
use Rattle.fo_formula.specs.declared.terms.Sign.TheVariants.{Universal, Local, Constructor}
use Rattle.fo_formula.specs.declared.atoms.FoAtom.{FoAtom}
use Rattle.fo_formula.specs.declared.atoms.FoAtom.TheVariants.{Equation, Predicate}
use Rattle.fo_formula.specs.declared.theory.FoTheory.{FoTheory}
use Rattle.fo_formula.specs.Words.{Word, arity, AreTerms, after_first, end_of, replaced, in_atom, first_constant}
use Rattle.fo_formula.specs.Values.{sign_value}
use Rattle.fo_formula.specs.Shapes.{HasConstant}
use Rattle.fo_formula.proofs.Reading.{first_split}
use Rattle.fo_formula.proofs.Replacing.{Keeps, terms-replaced, term_keeps}
use Rattle.fo_formula.specs.Tests.{have_one_constructor}
use Rattle.fo_formula.specs.Table.{Bindings, image, image_sign, equations, argument_equations, variables_from}
use Rattle.fo_logic.specs.Limits.{IsSignWithin, IsCaseSign, IsTermOf, TakesArguments, IsAtomOf, IsTermWithin}
use Rattle.fo_logic.specs.Limits.{IsAtomWithin}
use Rattle.heap_formula.proofs.AllMembers.{each_append, each_made, each_take, each_drop, each_or}

-- ---- any words in place of signs

-- the sign's place is filled by a term of such signs
abbrev pub IsFilled : (Sign → Type 0) → (Sign → Word) → Sign → Type 0
IsFilled Q f s = Keeps f s × Each Q (f s)

module _ (P Q : Sign → Type 0) (f : Sign → Word) (fills : (s : Sign) → P s → IsFilled Q f s) where
  keep_all : (w : Word) → Each P w → Each (Keeps f) w
  keep_all [] h = tt
  keep_all (s ∷ w) h = ((fills s h.0).0, keep_all w h.1)

  signs_filled : (w : Word) → Each P w → Each Q (replaced f w)
  signs_filled [] h = tt
  signs_filled (s ∷ w) h = each_append Q (f s) (replaced f w) (fills s h.0).1 (signs_filled w h.1)

  pub term_filled : (w : Word) → IsTermOf P w → IsTermOf Q (replaced f w)
  term_filled w h = (terms-replaced f 1 w (keep_all w h.1) h.0, signs_filled w h.1)

  pub atom_filled : (t : FoTheory) (x : FoAtom) → IsAtomOf t P x → IsAtomOf t Q (in_atom f x)
  atom_filled t (Equation l r) h = (term_filled l h.0, term_filled r h.1)
  atom_filled t (Predicate p ts) h = (
    subst (TakesArguments t p) (sym (length-map ts (replaced f))) h.0,
    each_made (replaced f) (IsTermOf P) (IsTermOf Q) term_filled ts h.1,
  )

  pub atoms_filled : (t : FoTheory) (xs : List FoAtom) → Each (IsAtomOf t P) xs
      → Each (IsAtomOf t Q) (map (in_atom f) xs)
  atoms_filled t xs h = each_made (in_atom f) (IsAtomOf t P) (IsAtomOf t Q) (atom_filled t) xs h

-- ---- the terms of a case's arguments and locals, and of a substitution

module _ (t : FoTheory) where
  term_fills : (f : Sign → Word) (s : Sign) → arity s ≡ 0 → IsTermWithin t (f s) → IsFilled (IsSignWithin t) f s
  term_fills f s none h =
      (λ n w k. term_keeps (f s) n w h.0 (subst (λ a. AreTerms (a + n) w) none k), h.1)

  module _ (constant : HasConstant t) (args locals : List Word) (args_within : Each (IsTermWithin t) args)
      (locals_within : Each (IsTermWithin t) locals) where
    constant_within : IsTermWithin t first_constant
    constant_within = (tt, (constant, tt))

    pub value_fills : (s : Sign) → IsCaseSign t s → IsFilled (IsSignWithin t) (sign_value args locals) s
    value_fills (Universal n) h =
        term_fills (sign_value args locals) (Universal n) refl
        (each_or (IsTermWithin t) args first_constant args_within constant_within n)
    value_fills (Local n) h =
        term_fills (sign_value args locals) (Local n) refl
        (each_or (IsTermWithin t) locals first_constant locals_within constant_within n)
    value_fills (Constructor c k) h = (λ n w are. are, (h, tt))

  image_within : (ps : Bindings) → Each (λ (p : ℕ × Word). IsTermWithin t p.1) ps → (n : ℕ) → n ≤ 65534
      → IsTermWithin t (image ps n)
  image_within [] h n low = (tt, (low, tt))
  image_within (p ∷ ps) h n low = by (nat_eq n p.0) (image_within ps h.1 n low)
    where
      by : (b : Bool) → IsTermWithin t (image ps n) → IsTermWithin t (if b then p.1 else image ps n)
      by true later = h.0
      by false later = later

  pub image_fills : (ps : Bindings) → Each (λ (p : ℕ × Word). IsTermWithin t p.1) ps → (s : Sign) → IsSignWithin t s
      → IsFilled (IsSignWithin t) (image_sign ps) s
  image_fills ps h (Universal n) low = term_fills (image_sign ps) (Universal n) refl (image_within ps h n low)
  image_fills ps h (Local n) none = absurd none
  image_fills ps h (Constructor c k) is = (λ n w are. are, (is, tt))

  -- variables that have numbers
  pub variables_within : (n k : ℕ) → n + k ≤ 65535 → Each (IsTermWithin t) (variables_from n k)
  variables_within n zero h = tt
  variables_within n (suc k) h = ((tt, (omega arith, tt)), variables_within (suc n) k (omega arith))

  -- ---- arguments of equal terms

  equations_within : (k : ℕ) (a b : Word) → AreTerms k a → AreTerms k b → Each (IsSignWithin t) a
      → Each (IsSignWithin t) b → Each (IsAtomWithin t) (equations k a b)
  equations_within zero a b h i p q = tt
  equations_within (suc k) a b h i p q =
      let c = first_split k a h in
      let d = first_split k b i in (
        (
          (c.0, each_take (IsSignWithin t) (end_of 1 a) a p),
          (d.0, each_take (IsSignWithin t) (end_of 1 b) b q),
        ),
        equations_within k (after_first a) (after_first b) c.1 d.1 (each_drop (IsSignWithin t) (end_of 1 a) a p)
            (each_drop (IsSignWithin t) (end_of 1 b) b q),
      )

  pub arguments_within : (l r : Word) → have_one_constructor l r ≡ true → IsTermWithin t l → IsTermWithin t r
      → Each (IsAtomWithin t) (argument_equations l r)
  arguments_within [] r e h i = absurd cc
  arguments_within (Universal n ∷ a) [] e h i = absurd cc
  arguments_within (Universal n ∷ a) (y ∷ b) e h i = absurd cc
  arguments_within (Local n ∷ a) [] e h i = absurd cc
  arguments_within (Local n ∷ a) (y ∷ b) e h i = absurd cc
  arguments_within (Constructor c k ∷ a) [] e h i = absurd cc
  arguments_within (Constructor c k ∷ a) (Universal n ∷ b) e h i = absurd cc
  arguments_within (Constructor c k ∷ a) (Local n ∷ b) e h i = absurd cc
  arguments_within (Constructor c k ∷ a) (Constructor d m ∷ b) e h i =
      let parts = and_parts (nat_eq c d) (nat_eq k m) e in
      let same : k ≡ m = eqb-true k m parts.1 in
      let z : k + 0 ≡ k = omega arith in
      let y : m + 0 ≡ k = omega arith in
      equations_within k a b (subst (λ n. AreTerms n a) z h.0) (subst (λ n. AreTerms n b) y i.0) h.1.1 i.1.1
