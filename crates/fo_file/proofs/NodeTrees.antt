-- The trees of terms and of arguments: so many terms, of so many signs.
use Rattle.std.proofs.Common.{◌≡◌, ℕ, zero, suc, ◌+◌, List, [], ◌∷◌, ◌++◌, length, map, refl, sym, ap, ◌∙◌, subst}
use Rattle.std.proofs.Common.{arith, length-append}
use Rattle.std.specs.List.{flat_map}
use Rattle.std.proofs.lemmas.List.{length-map, map-append}
use Rattle.std.proofs.lemmas.List.Sums.{sum_by-cons}
use Rattle.heap_formula.specs.Words.{Each}
use Rattle.fo_formula.specs.declared.terms.Sign.{Sign as SignValue}
use Rattle.fo_formula.specs.declared.terms.Sign.TheVariants as signs
use Rattle.fo_formula.specs.declared.atoms.FoAtom.{FoAtom}
use Rattle.fo_formula.specs.declared.atoms.FoAtom.TheVariants as atoms
use Rattle.fo_formula.specs.declared.sequents.FoSequent.{FoSequent}
use Rattle.fo_formula.specs.declared.theory.FoTheory.{FoTheory}
use Rattle.fo_formula.specs.Sizes.{words_size, atom_size, atoms_size, sequent_size}
use Rattle.fo_formula.specs.Words as words
use Rattle.fo_formula.specs.Words.{Word, arity}
use Rattle.fo_formula.proofs.Replacing.{term_keeps}
use Rattle.fo_logic.specs.Limits.{IsTermOf}
use Rattle.fo_syntax.specs.Trees.{Sign, arguments_of, AreTerms}
use Rattle.fo_file.specs.AtomSpans.{terms_in, total_terms}
use Rattle.fo_file.specs.Spans.{sequent_terms}
use Rattle.fo_file.specs.Written.{sign_tree, term_tree, atom_tree, atoms_tree, sequent_tree}
use Rattle.heap_formula.proofs.AllMembers.{each_append}

-- ---- the arguments of a predicate as one word

abbrev pub joined : List Word → Word
joined ts = flat_map (λ (u : Word). u) ts

pub joined-terms : (ts : List Word) → Each words.IsTerm ts → words.AreTerms (length ts) (joined ts)
joined-terms [] are = tt
joined-terms (v ∷ ts) are =
    let e : length ts ≡ 0 + length ts = omega arith in
    term_keeps v (length ts) (joined ts) are.0 (subst (λ n. words.AreTerms n (joined ts)) e (joined-terms ts are.1))

pub joined-signs : (Q : SignValue → Type 0) (ts : List Word) → Each (IsTermOf Q) ts → Each Q (joined ts)
joined-signs Q [] h = tt
joined-signs Q (v ∷ ts) h = each_append Q v (joined ts) h.0.1 (joined-signs Q ts h.1)

pub are-terms : (Q : SignValue → Type 0) (ts : List Word) → Each (IsTermOf Q) ts → Each words.IsTerm ts
are-terms Q [] h = tt
are-terms Q (v ∷ ts) h = (h.0.0, are-terms Q ts h.1)

pub joined-length : (ts : List Word) → length (joined ts) ≡ words_size ts
joined-length [] = refl
joined-length (v ∷ ts) =
    let both = length-append v (joined ts) in
    let rest = joined-length ts in
    let front = sum_by-cons (λ (n : ℕ). n) (length v) (map (λ (u : Word). length u) ts) in
    omega arith

module _ (t : FoTheory) where
  -- ---- trees of words

  arity-tree : (s : SignValue) → arguments_of (sign_tree t s) ≡ arity s
  arity-tree (signs.Universal n) = refl
  arity-tree (signs.Local n) = refl
  arity-tree (signs.Constructor c k) = refl

  pub terms-tree : (n : ℕ) (w : Word) → words.AreTerms n w → AreTerms n (term_tree t w)
  terms-tree zero [] h = tt
  terms-tree zero (s ∷ w) h = absurd h
  terms-tree (suc n) [] h = absurd h
  terms-tree (suc n) (s ∷ w) h =
      let a = arity-tree s in
      let e : arity s + n ≡ n + arguments_of (sign_tree t s) = omega (arith, a) in
      subst (λ i. AreTerms i (term_tree t w)) e (terms-tree (arity s + n) w h)

  pub joined-tree : (ts : List Word) → flat_map (term_tree t) ts ≡ term_tree t (joined ts)
  joined-tree [] = refl
  joined-tree (v ∷ ts) =
      let rest = joined-tree ts in
      ap (λ (w : List Sign). term_tree t v ++ w) rest ∙ sym (map-append (sign_tree t) v (joined ts))

  -- ---- how many variables and applications there are

  pub atom-terms : (x : FoAtom) → terms_in (atom_tree t x) ≡ atom_size x
  atom-terms (atoms.Equation l r) = omega (arith, length-map l (sign_tree t), length-map r (sign_tree t))
  atom-terms (atoms.Predicate p ts) =
      ap (λ (w : List Sign). length w) (joined-tree ts) ∙ length-map (joined ts) (sign_tree t) ∙ joined-length ts

  pub atoms-terms : (xs : List FoAtom) → total_terms (atoms_tree t xs) ≡ atoms_size xs
  atoms-terms [] = refl
  atoms-terms (x ∷ xs) =
      let front = sum_by-cons (λ (n : ℕ). n) (atom_size x) (map atom_size xs) in
      omega (arith, front, atom-terms x, atoms-terms xs)

  pub sequent-terms : (s : FoSequent) → sequent_terms (sequent_tree t s) ≡ sequent_size s
  sequent-terms s = omega (arith, atoms-terms s.left, atoms-terms s.right)
