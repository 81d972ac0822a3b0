-- The trees of nodes within the limits fit the grammar.
use Rattle.std.proofs.Common.{ℕ, ◌<◌, Bool, false, List, [], ◌∷◌, ◌++◌, length, map, sym, subst, arith, inl, inr, ◌⊎◌}
use Rattle.heap_formula.specs.Words.{Each}
use Rattle.cyc_grammar.specs.Syntax.{Syntax, Class, seq, after, one, fits_alt, fits_many}
use Rattle.cyc_grammar.specs.Classes.{number}
use Rattle.heap_syntax.specs.Words.{comma, equal, true_word}
use Rattle.fo_formula.specs.declared.terms.Sign.{Sign as SignValue}
use Rattle.fo_formula.specs.declared.terms.Sign.TheVariants as signs
use Rattle.fo_formula.specs.declared.atoms.FoAtom.{FoAtom}
use Rattle.fo_formula.specs.declared.atoms.FoAtom.TheVariants as atomic
use Rattle.fo_formula.specs.Nodes.{FoNode}
use Rattle.fo_formula.specs.declared.nodes.FoReason.{FoReason}
use Rattle.fo_formula.specs.declared.nodes.FoReason.TheVariants as reasons
use Rattle.fo_formula.specs.declared.nodes.FoRule.TheVariants as rules
use Rattle.fo_formula.specs.declared.sequents.FoSequent.{FoSequent}
use Rattle.fo_formula.specs.declared.theory.FoTheory.{FoTheory}
use Rattle.fo_formula.specs.Values.{IsConstructor}
use Rattle.fo_formula.specs.Words.{Word}
use Rattle.fo_logic.specs.Limits.{IsSignWithin, IsTermWithin, TakesArguments, IsAtomWithin, HasAtomsWithin}
use Rattle.fo_logic.specs.Limits.{IsPairWithin, IsReasonWithin, IsNumberWithin, numbers_of, IsNodeWithin}
use Rattle.fo_syntax.specs.Steps.{option}
use Rattle.fo_syntax.specs.Words.{false_word, free_name}
use Rattle.fo_syntax.specs.Trees.{Sign, Apply, Atom, Equation, Predicate}
use Rattle.fo_syntax.specs.Fits.{FitsSign, FitSigns}
use Rattle.fo_syntax.specs.Grammar.{leaf, application, term, from_term, equated, atom}
use Rattle.fo_syntax.proofs.TermFits.{application-fits, term-fits}
use Rattle.fo_syntax.specs.ProblemGrammar.{atoms, atoms_or, sequent}
use Rattle.fo_syntax.specs.ProofTrees.{Entry, Node}
use Rattle.fo_syntax.specs.ProofGrammar.{numbers, bracketed, two_numbers, replace, terms, right_rule, entry, entries}
use Rattle.fo_syntax.specs.ProofGrammar.{link, parts, reason, premises, node, nodes}
use Rattle.fo_file.specs.Written.{constructor_name, predicate_name, sign_tree, term_tree, atom_tree, atoms_tree}
use Rattle.fo_file.specs.Written.{sequent_tree, entry_tree, reason_tree, node_tree}
use Rattle.fo_file.proofs.NodeTrees.{joined, joined-terms, joined-signs, are-terms, terms-tree, joined-tree}
use Rattle.heap_formula.proofs.AllMembers.{each_made}

-- ---- parts that fit make what fits

fits-each : {X : Type 0} (a : Syntax X) (xs : List X) → Each a.fits xs → fits_many a xs
fits-each a [] f = tt
fits-each a (x ∷ xs) f = (f.0, fits-each a xs f.1)

equation-fits : (b : Bool) (t u : List Sign) → (term b).fits t → (term b).fits u → (atom b).fits (Equation t u)
unfolding term atom
equation-fits b t u f g = (f.0, sided (from_term t) f.1)
  where
    sided : (x : List Sign ⊎ Sign) → fits_alt (application b) (leaf b) x
        → fits_alt (seq (application b) (option equal (term b))) (seq (leaf b) (after equal (term b))) (equated u x)
    sided (inl y) h = (h, g)
    sided (inr s) h = (h, g)

use-fits : (b : Bool) (t : List Sign) → (application b).fits t → (atom b).fits (Predicate t)
unfolding atom
use-fits b t f = (tt, (f, tt))

atoms-fit : (none : Class (Unit {0})) (b : Bool) → none.fits tt → (xs : List Atom) → Each (atom b).fits xs
    → (atoms_or none b).fits xs
unfolding atoms_or atoms
atoms-fit none b empty [] f = (tt, empty)
atoms-fit none b empty (a ∷ more) f = (tt, (omega arith, fits-each (after comma (atom b)) (a ∷ more) f))

terms-made : (ts : List (List Sign)) → Each (term false).fits ts → terms.fits ts
unfolding terms
terms-made [] f = (tt, tt)
terms-made (t ∷ ts) f = (tt, (omega arith, fits-each (after comma (term false)) (t ∷ ts) f))

entries-made : (es : List Entry) → Each entry.fits es → entries.fits es
unfolding entries
entries-made [] f = (tt, tt)
entries-made (e ∷ es) f = (tt, (omega arith, fits-each (after comma entry) (e ∷ es) f))

pub nodes-made : (ns : List Node) → 0 < length ns → Each node.fits ns → nodes.fits ns
unfolding nodes
nodes-made [] some f = absurd (omega arith)
nodes-made (n ∷ ns) some f = (omega arith, (f.0, fits-each node ns f.1))

-- ---- numbers

numbers-fit : (ns : List ℕ) → Each IsNumberWithin ns → fits_many (one number) ns
numbers-fit [] h = tt
numbers-fit (n ∷ ns) h = (h.0, numbers-fit ns h.1)

bracketed-fit : (ns : List ℕ) → Each IsNumberWithin ns → bracketed.fits ns
unfolding bracketed numbers
bracketed-fit ns h = numbers-fit ns h

premises-fit : (ns : List ℕ) → Each IsNumberWithin ns → premises.fits ns
unfolding premises numbers
premises-fit [] h = (tt, tt)
premises-fit (n ∷ ns) h = (tt, (h.0, numbers-fit ns h.1))

each-front : (xs ys : List ℕ) → Each IsNumberWithin (xs ++ ys) → Each IsNumberWithin xs
each-front [] ys h = tt
each-front (x ∷ xs) ys h = (h.0, each-front xs ys h.1)

each-behind : (xs ys : List ℕ) → Each IsNumberWithin (xs ++ ys) → Each IsNumberWithin ys
each-behind [] ys h = h
each-behind (x ∷ xs) ys h = each-behind xs ys h.1

-- ---- terms and atoms

module _ (t : FoTheory) (constructors : (c k : ℕ) → IsConstructor t.constructors c k
    → free_name.fits (constructor_name t c)) where
  sign-fits : (s : SignValue) → IsSignWithin t s → FitsSign false (sign_tree t s)
  sign-fits (signs.Universal n) h = omega arith
  sign-fits (signs.Local n) h = absurd h
  sign-fits (signs.Constructor c k) h = constructors c k h

  signs-fit : (w : Word) → Each (IsSignWithin t) w → FitSigns false (term_tree t w)
  signs-fit [] h = tt
  signs-fit (s ∷ w) h = (sign-fits s h.0, signs-fit w h.1)

  term-fit : (w : Word) → IsTermWithin t w → (term false).fits (term_tree t w)
  term-fit w h = term-fits false (term_tree t w) (terms-tree t 1 w h.0) (signs-fit w h.1)

  entry-fits : (pair : ℕ × Word) → IsPairWithin t pair → entry.fits (entry_tree t pair)
  unfolding entry
  entry-fits pair h = let low = h.0 in (tt, (omega arith, term-fit pair.1 h.1))

  module _ (predicates : (p n : ℕ) → TakesArguments t p n → free_name.fits (predicate_name t p)) where
    atom-fits : (x : FoAtom) → IsAtomWithin t x → (atom false).fits (atom_tree t x)
    atom-fits (atomic.Equation l r) h =
        equation-fits false (term_tree t l) (term_tree t r) (term-fit l h.0) (term-fit r h.1)
    atom-fits (atomic.Predicate p ts) h =
        let name = predicate_name t p in
        let is = terms-tree t (length ts) (joined ts) (joined-terms ts (are-terms (IsSignWithin t) ts h.1)) in
        let signs = signs-fit (joined ts) (joined-signs (IsSignWithin t) ts h.1) in
        let fit = application-fits false name (length ts) (term_tree t (joined ts)) is
        (predicates p (length ts) h.0, signs) in
        subst (λ (ss : List Sign). (atom false).fits (Predicate (Apply name (length ts) ∷ ss))) (sym (joined-tree t ts))
        (use-fits false (Apply name (length ts) ∷ term_tree t (joined ts)) fit)

    side-fits : (xs : List FoAtom) → Each (IsAtomWithin t) xs → Each (atom false).fits (atoms_tree t xs)
    side-fits xs h = each_made (atom_tree t) (IsAtomWithin t) (atom false).fits atom-fits xs h

    -- ---- sequents, reasons and nodes

    sequent-fits : (s : FoSequent) → HasAtomsWithin t s → sequent.fits (sequent_tree t s)
    unfolding sequent
    sequent-fits s h = (
      tt,
      (
        atoms-fit true_word false tt (atoms_tree t s.left) (side-fits s.left h.0),
        atoms-fit false_word false tt (atoms_tree t s.right) (side-fits s.right h.1),
      ),
    )

    reason-fits : (r : FoReason) → IsReasonWithin t r → Each IsNumberWithin (numbers_of r)
        → reason.fits (reason_tree t r)
    unfolding reason parts two_numbers replace right_rule link
    reason-fits (reasons.Rule (rules.Axiom i j)) h n = (tt, (tt, (n.0, n.1.0)))
    reason-fits (reasons.Rule (rules.Refl j)) h n = (tt, (tt, n.0))
    reason-fits (reasons.Rule (rules.Clash i)) h n = (tt, (tt, n.0))
    reason-fits (reasons.Rule (rules.Decompose i)) h n = (tt, (tt, n.0))
    reason-fits (reasons.Rule (rules.Replace i side)) h n = (tt, (tt, (n.0, tt)))
    reason-fits (reasons.Rule (rules.WeakenLeft i)) h n = (tt, (tt, n.0))
    reason-fits (reasons.Rule (rules.WeakenRight j)) h n = (tt, (tt, n.0))
    reason-fits (reasons.Rule (rules.Contract i)) h n = (tt, (tt, n.0))
    reason-fits (reasons.Rule (rules.Unfold i)) h n = (tt, (tt, n.0))
    reason-fits (reasons.Rule (rules.Cut x)) h n = (tt, (tt, atom-fits x h))
    reason-fits (reasons.Rule (rules.Right j c ts)) h n =
        let all = each_made (term_tree t) (IsTermWithin t) (term false).fits term-fit ts h in
        (tt, (tt, (n.0, (n.1.0, terms-made (map (term_tree t) ts) all))))
    reason-fits (reasons.Link l) h n =
        let all = each_made (entry_tree t) (IsPairWithin t) entry.fits entry-fits l.substitution h in
        let left = bracketed-fit l.left_map (each-front l.left_map l.right_map n.1) in
        let right = bracketed-fit l.right_map (each-behind l.left_map l.right_map n.1) in
        (tt, (tt, (tt, (n.0, (entries-made (map (entry_tree t) l.substitution) all, (left, right))))))

    pub node-fits : (n : FoNode) → IsNodeWithin t n → node.fits (node_tree t n)
    unfolding node
    node-fits n h = (
      tt,
      (
        sequent-fits n.judgement h.sequent.1,
        (reason-fits n.reason h.reason h.numbers, premises-fit n.premises h.premises),
      ),
    )
