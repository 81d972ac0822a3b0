-- Terms outside cases whose names are known are said as terms over the constructors.
use Rattle.std.proofs.Common.{◌≡◌, ℕ, zero, suc, false, List, [], ◌∷◌, length, map, Some, refl, ap, ◌∙◌, arith}
use Rattle.std.proofs.Common.{length-append}
use Rattle.std.proofs.lemmas.List.{length-map, take-append-drop}
use Rattle.std.proofs.lemmas.List.Sums.{sum_by-cons}
use Rattle.heap_formula.specs.Words.{Each}
use Rattle.heap_reader.specs.Trees.{Heading}
use Rattle.heap_reader.specs.Flaws.{arity_in}
use Rattle.heap_reader.specs.Values.{place_of}
use Rattle.fo_formula.specs.declared.terms.Sign.{Sign as SignValue}
use Rattle.fo_formula.specs.declared.theory.Constructor.{Constructor as ConstructorValue}
use Rattle.fo_formula.specs.Words as words
use Rattle.fo_formula.specs.Words.{Word, end_of, first_term, after_first}
use Rattle.fo_formula.specs.Values.{IsConstructor}
use Rattle.fo_formula.specs.Shapes.{IsOpenSign, IsOpenTerm, IsOpenAtom, IsOpenSequent}
use Rattle.fo_formula.specs.Sizes.{words_size, atom_size, atoms_size, sequent_size}
use Rattle.fo_formula.proofs.Reading.{first_split}
use Rattle.fo_formula.specs.Soundness.{HasOpenReason}
use Rattle.fo_syntax.specs.Trees.{Sign, Variable, Local, Apply, Atom, Equation, Predicate}
use Rattle.fo_syntax.specs.Fits.{FitsSign, FitSigns}
use Rattle.fo_syntax.specs.Grammar.{term, atom}
use Rattle.fo_syntax.proofs.TermFits.{term-signs}
use Rattle.fo_syntax.proofs.AtomTexts.{sides, alone}
use Rattle.heap_syntax.specs.Words.{true_word}
use Rattle.fo_syntax.specs.Words.{false_word}
use Rattle.fo_syntax.specs.ProblemTrees.{Sequent}
use Rattle.fo_syntax.specs.ProblemGrammar.{sequent}
use Rattle.fo_syntax.specs.ProofTrees.{Entry, Reason, Axiom, Refl, Clash, Decompose, Replace, WeakenLeft, WeakenRight}
use Rattle.fo_syntax.specs.ProofTrees.{Contract, Unfold, Cut, Right, Link}
use Rattle.fo_syntax.specs.ProofGrammar.{right_rule, entry, link, parts, reason}
use Rattle.fo_file.specs.Values.{first_terms, sign_value, term_value, atom_value, atoms_value, sequent_value}
use Rattle.fo_file.specs.Values.{entry_value, reason_value}
use Rattle.fo_file.specs.Known.{IsKnownSign, IsKnownTerm, IsKnownEntry, IsKnownAtom, AreKnownAtoms, IsKnownSequent}
use Rattle.fo_file.specs.Known.{IsKnownReason}
use Rattle.fo_file.proofs.TreesAgain.{terms-value}
use Rattle.fo_file.specs.AtomSpans.{terms_in, total_terms}
use Rattle.fo_file.specs.Spans.{sequent_terms}
use Rattle.fo_file.proofs.Fitted.{sides-fit, terms-fit, entries-fit}
use Rattle.heap_formula.proofs.AllMembers.{each_take, each_drop}

-- ---- the terms of a word

pub first-each : (P : SignValue → Type 0) (n : ℕ) (w : Word) → words.AreTerms n w → Each P w
    → Each (λ (v : Word). words.IsTerm v × Each P v) (first_terms n w)
first-each P zero w are h = tt
first-each P (suc n) w are h =
    let both = first_split n w are in
    ((both.0, each_take P (end_of 1 w) w h), first-each P n (after_first w) both.1 (each_drop P (end_of 1 w) w h))

first-size : (n : ℕ) (w : Word) → words.AreTerms n w → words_size (first_terms n w) ≡ length w
first-size zero [] are = refl
first-size zero (s ∷ w) are = absurd are
first-size (suc n) w are =
    let both = first_split n w are in
    let rest = first-size n (after_first w) both.1 in
    let parts = length-append (first_term w) (after_first w) in
    let whole = ap (λ (v : Word). length v) (take-append-drop (end_of 1 w) w) in
    let front = sum_by-cons (λ (k : ℕ). k) (length (first_term w))
    (map (λ (v : Word). length v) (first_terms n (after_first w))) in
    omega arith

-- ---- how many variables and applications there are

module _ (cs ps : List Heading) where
  atom-size : (a : Atom) → IsKnownAtom cs ps a → atom_size (atom_value cs ps a) ≡ terms_in a
  atom-size (Equation t u) k = omega (arith, length-map t (sign_value cs), length-map u (sign_value cs))
  atom-size (Predicate []) k = absurd k
  atom-size (Predicate (Variable n ∷ ss)) k = absurd k
  atom-size (Predicate (Local n ∷ ss)) k = absurd k
  atom-size (Predicate (Apply name n ∷ ss)) k =
      first-size n (term_value cs ss) (terms-value cs n ss k.1.0) ∙ length-map ss (sign_value cs)

  atoms-size : (xs : List Atom) → AreKnownAtoms cs ps xs → atoms_size (atoms_value cs ps xs) ≡ total_terms xs
  atoms-size [] k = refl
  atoms-size (a ∷ more) k =
      let front = sum_by-cons (λ (n : ℕ). n) (atom_size (atom_value cs ps a)) (map atom_size (atoms_value cs ps more))
      in
      omega (arith, front, atom-size a k.0, atoms-size more k.1)

  pub sequent-size : (s : Sequent) → IsKnownSequent cs ps s → sequent_size (sequent_value cs ps s) ≡ sequent_terms s
  sequent-size s k = omega (arith, atoms-size s.left k.0, atoms-size s.right k.1)

-- ---- terms over the constructors

entry-fit : (e : Entry) → entry.fits e → (term false).fits e.value
unfolding entry
entry-fit e f = f.1.1

module _ (cs : List Heading) (all : List ConstructorValue)
    (placed : (name : List ℕ) (n : ℕ) → arity_in cs name ≡ Some n → IsConstructor all (place_of cs name) n) where
  open-sign : (s : Sign) → FitsSign false s → IsKnownSign cs s → IsOpenSign all (sign_value cs s)
  open-sign (Variable n) f k = tt
  open-sign (Local n) f k = let no = f.0 in absurd cc
  open-sign (Apply name n) f k = placed name n k.1

  open-signs : (ss : List Sign) → FitSigns false ss → Each (IsKnownSign cs) ss
      → Each (IsOpenSign all) (term_value cs ss)
  open-signs [] f k = tt
  open-signs (s ∷ ss) f k = (open-sign s f.0 k.0, open-signs ss f.1 k.1)

  open-term : (t : List Sign) → (term false).fits t → IsKnownTerm cs t → IsOpenTerm all (term_value cs t)
  open-term t f k = (terms-value cs 1 t k.0, open-signs t (term-signs false t f).1 k.1)

  module _ (ps : List Heading) where
    open-atom : (a : Atom) → (atom false).fits a → IsKnownAtom cs ps a → IsOpenAtom all (atom_value cs ps a)
    open-atom (Equation t u) f k =
        let both = sides false t u f in (open-term t both.left k.0, open-term u both.right k.1)
    open-atom (Predicate []) f k = absurd k
    open-atom (Predicate (Variable n ∷ ss)) f k = absurd k
    open-atom (Predicate (Local n ∷ ss)) f k = absurd k
    open-atom (Predicate (Apply name n ∷ ss)) f k =
        let signs = (term-signs false (Apply name n ∷ ss) (alone false (Apply name n ∷ ss) f).fits).1 in
        first-each (IsOpenSign all) n (term_value cs ss) (terms-value cs n ss k.1.0) (open-signs ss signs.1 k.1.1)

    open-atoms : (xs : List Atom) → Each (atom false).fits xs → AreKnownAtoms cs ps xs
        → Each (IsOpenAtom all) (atoms_value cs ps xs)
    open-atoms [] f k = tt
    open-atoms (a ∷ more) f k = (open-atom a f.0 k.0, open-atoms more f.1 k.1)

    pub open-sequent : (s : Sequent) → sequent.fits s → IsKnownSequent cs ps s
        → IsOpenSequent all (sequent_value cs ps s)
    unfolding sequent
    open-sequent s f k = (
      open-atoms s.left (sides-fit true_word false s.left f.1.0) k.0,
      open-atoms s.right (sides-fit false_word false s.right f.1.1) k.1,
    )

    open-terms : (ts : List (List Sign)) → Each (term false).fits ts → Each (IsKnownTerm cs) ts
        → Each (IsOpenTerm all) (map (term_value cs) ts)
    open-terms [] f k = tt
    open-terms (t ∷ ts) f k = (open-term t f.0 k.0, open-terms ts f.1 k.1)

    open-entries : (es : List Entry) → Each entry.fits es → Each (IsKnownEntry cs) es
        → Each (λ (pair : ℕ × Word). IsOpenTerm all pair.1) (map (entry_value cs) es)
    open-entries [] f k = tt
    open-entries (e ∷ es) f k = (open-term e.value (entry-fit e f.0) k.0.1, open-entries es f.1 k.1)

    pub open-reason : (r : Reason) → reason.fits r → IsKnownReason cs ps r → HasOpenReason all (reason_value cs ps r)
    unfolding reason parts right_rule link
    open-reason (Axiom i j) f k = tt
    open-reason (Refl j) f k = tt
    open-reason (Clash i) f k = tt
    open-reason (Decompose i) f k = tt
    open-reason (Replace i side) f k = tt
    open-reason (WeakenLeft i) f k = tt
    open-reason (WeakenRight j) f k = tt
    open-reason (Contract i) f k = tt
    open-reason (Unfold i) f k = tt
    open-reason (Cut a) f k = tt
    open-reason (Right j c ts) f k = open-terms ts (terms-fit ts f.1.1.1.1) k
    open-reason (Link l) f k = open-entries l.substitution (entries-fit l.substitution f.1.1.1.1.0) k
