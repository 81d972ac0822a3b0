-- Subterms of terms of signs with a property are such terms.
use Rattle.std.proofs.Common.{ℕ, zero, suc, ◌+◌, Bool, true, false, cond, List, [], ◌∷◌, ◌++◌}
use Rattle.std.specs.List.{list_any, flat_map}
use Rattle.heap_formula.specs.Words.{Each}
use Rattle.fo_formula.specs.declared.terms.Sign.{Sign}
use Rattle.fo_formula.specs.declared.atoms.FoAtom.{FoAtom}
use Rattle.fo_formula.specs.declared.atoms.FoAtom.TheVariants.{Equation, Predicate}
use Rattle.fo_formula.specs.declared.sequents.FoSequent.{FoSequent}
use Rattle.fo_formula.specs.declared.theory.FoTheory.{FoTheory}
use Rattle.fo_formula.specs.Words.{Word, arity, AreTerms, end_of}
use Rattle.fo_formula.proofs.Reading.{first_split}
use Rattle.fo_formula.specs.Tests.{same_word}
use Rattle.fo_logic.specs.Limits.{IsTermOf, IsAtomOf}
use Rattle.fo_search.specs.Subterms.{terms_of_atom, terms_of, parts_of, once, subterms, lists_of}
use Rattle.fo_search.proofs.Lists.{each_joined, each_chosen}
use Rattle.heap_formula.proofs.AllMembers.{each_append, each_take}

module _ (Q : Sign → Type 0) where
  each_part : (n : ℕ) (w : Word) → AreTerms n w → Each Q w → Each (IsTermOf Q) (parts_of w)
  each_part n [] a h = tt
  each_part zero (s ∷ w) a h = absurd a
  each_part (suc n) (s ∷ w) a h =
      let first = first_split n (s ∷ w) a in
      ((first.0, each_take Q (end_of 1 (s ∷ w)) (s ∷ w) h), each_part (arity s + n) w a h.1)

  parts_are : (w : Word) → IsTermOf Q w → Each (IsTermOf Q) (parts_of w)
  parts_are w h = each_part 1 w h.0 h.1

  once_are : (done ws : List Word) → Each (IsTermOf Q) done → Each (IsTermOf Q) ws → Each (IsTermOf Q) (once done ws)
  once_are done [] a b = a
  once_are done (w ∷ ws) a b =
      branch (list_any (same_word w) done) (once_are done ws a b.1)
      (once_are (done ++ w ∷ []) ws (each_append (IsTermOf Q) done (w ∷ []) a (b.0, tt)) b.1)
    where
      branch : (is : Bool) → Each (IsTermOf Q) (once done ws) → Each (IsTermOf Q) (once (done ++ w ∷ []) ws) →
          Each (IsTermOf Q) (cond is (once done ws) (once (done ++ w ∷ []) ws))
      branch true there new = there
      branch false there new = new

  module _ (t : FoTheory) where
    atom_terms : (x : FoAtom) → IsAtomOf t Q x → Each (IsTermOf Q) (terms_of_atom x)
    atom_terms (Equation l r) h = (h.0, (h.1, tt))
    atom_terms (Predicate p ts) h = h.1

    module _ (s : FoSequent) (left : Each (IsAtomOf t Q) s.left) (right : Each (IsAtomOf t Q) s.right) where
      terms_are : Each (IsTermOf Q) (terms_of s)
      terms_are = each_joined (IsTermOf Q) (IsAtomOf t Q) terms_of_atom atom_terms (s.left ++ s.right)
          (each_append (IsAtomOf t Q) s.left s.right left right)

      pub subterms_are : Each (IsTermOf Q) (subterms s)
      subterms_are = once_are [] (flat_map parts_of (terms_of s)) tt
          (each_joined (IsTermOf Q) (IsTermOf Q) parts_of parts_are (terms_of s) terms_are)

      pub lists_are : (k : ℕ) → Each (Each (IsTermOf Q)) (lists_of k (subterms s))
      lists_are k = each_chosen (IsTermOf Q) (subterms s) subterms_are k
