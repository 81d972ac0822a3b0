-- The variables of a sequent within the limits have numbers up to 65,534.
use Rattle.std.proofs.Common.{ℕ, ◌+◌, ◌<◌, ◌≤◌, List, [], ◌∷◌, map, arith}
use Rattle.std.specs.List.{range_with_len}
use Rattle.heap_formula.specs.Words.{Each, max_of}
use Rattle.fo_formula.specs.declared.terms.Sign.{Sign}
use Rattle.fo_formula.specs.declared.terms.Sign.TheVariants.{Universal, Local, Constructor}
use Rattle.fo_formula.specs.declared.atoms.FoAtom.{FoAtom}
use Rattle.fo_formula.specs.declared.atoms.FoAtom.TheVariants.{Equation, Predicate}
use Rattle.fo_formula.specs.declared.numbers.Kind.TheVariants.{Variables}
use Rattle.fo_formula.specs.declared.sequents.FoSequent.{FoSequent}
use Rattle.fo_formula.specs.declared.theory.FoTheory.{FoTheory}
use Rattle.fo_formula.specs.Bounds.{sign_bound, word_bound, atom_bound, sequent_bound}
use Rattle.fo_formula.specs.Words.{Word}
use Rattle.fo_logic.specs.Limits.{IsSignWithin, IsTermWithin, IsAtomWithin, HasAtomsWithin}
use Rattle.fo_search.specs.Links.{stands_in, variables}
use Rattle.fo_search.proofs.Lists.{each_filter}
use Rattle.heap_formula.proofs.AllMembers.{each_imply, range_below}

-- the greatest of numbers that are each at most m
most_of : {X : Type 0} (P : X → Type 0) (f : X → ℕ) (m : ℕ) → ((x : X) → P x → f x ≤ m) → (xs : List X) → Each P xs →
    max_of (map f xs) ≤ m
most_of P f m one [] h = omega arith
most_of P f m one (x ∷ xs) h = let here = one x h.0 in let rest = most_of P f m one xs h.1 in omega (arith, here, rest)

module _ (t : FoTheory) where
  sign_low : (s : Sign) → IsSignWithin t s → sign_bound Variables s ≤ 65535
  sign_low (Universal n) h = omega (arith, h)
  sign_low (Local n) h = omega arith
  sign_low (Constructor c k) h = omega arith

  word_low : (w : Word) → IsTermWithin t w → word_bound Variables w ≤ 65535
  word_low w h = most_of (IsSignWithin t) (sign_bound Variables) 65535 sign_low w h.1

  atom_low : (x : FoAtom) → IsAtomWithin t x → atom_bound Variables x ≤ 65535
  atom_low (Equation l r) h = let a = word_low l h.0 in let b = word_low r h.1 in omega (arith, a, b)
  atom_low (Predicate p ts) h = most_of (IsTermWithin t) (word_bound Variables) 65535 word_low ts h.1

  bound_low : (s : FoSequent) → HasAtomsWithin t s → sequent_bound s ≤ 65535
  bound_low s h =
      let a = most_of (IsAtomWithin t) (atom_bound Variables) 65535 atom_low s.left h.0 in
      let b = most_of (IsAtomWithin t) (atom_bound Variables) 65535 atom_low s.right h.1 in omega (arith, a, b)

  pub variables_low : (s : FoSequent) → HasAtomsWithin t s → Each (λ n. n ≤ 65534) (variables s)
  variables_low s h =
      let low = bound_low s h in
      each_filter (λ n. n ≤ 65534) (λ n. stands_in n s) (range_with_len 0 (sequent_bound s))
      (each_imply (λ n. n < 0 + sequent_bound s) (λ n. n ≤ 65534) (λ n lt. omega (arith, low, lt))
      (range_with_len 0 (sequent_bound s)) (range_below 0 (sequent_bound s)))
