-- Atoms of a sequent without a flaw have no locals, and variables up to number 65,534.
use Rattle.std.proofs.Common.{◌≡◌, ℕ, suc, ◌+◌, ◌≤◌, false, List, [], ◌∷◌, length, drop, None, refl, arith}
use Rattle.std.specs.Prelude.{nat_le}
use Rattle.heap_formula.specs.Words.{Each}
use Rattle.cyc_lex.specs.declared.fault.What.TheVariants.{Atoms, Variable as VariableLimit}
use Rattle.heap_reader.specs.Trees.{Heading}
use Rattle.heap_reader.specs.Flaws.{Found, over_if, or_later, arity_in, use_flaw}
use Rattle.heap_reader.proofs.NoFlaw.{neither, not_over, at_most}
use Rattle.heap_syntax.specs.Words.{true_word}
use Rattle.fo_syntax.specs.Words.{false_word}
use Rattle.fo_syntax.specs.Trees.{Sign, Variable, Local, Apply, Atom, Equation, Predicate}
use Rattle.fo_syntax.specs.Fits.{FitsSign, FitSigns}
use Rattle.fo_syntax.specs.Grammar.{term, atom}
use Rattle.fo_syntax.specs.Places.{places_of, tokens_in}
use Rattle.fo_syntax.proofs.AtomTexts.{sides, alone}
use Rattle.fo_syntax.proofs.PlaceLaws.{places-count}
use Rattle.fo_syntax.proofs.TermFits.{term-signs}
use Rattle.fo_syntax.specs.ProblemTrees.{Sequent}
use Rattle.fo_syntax.specs.ProblemGrammar.{sequent}
use Rattle.fo_file.specs.declared.walk.flaw.Scope.TheVariants.{Node as InNode}
use Rattle.fo_file.specs.AtomSpans.{atom_span, atoms_span, terms_in, total_terms, IsAtom, AreAtoms}
use Rattle.fo_file.specs.Arguments.{numbers, numbers_behind, argument_flaw}
use Rattle.fo_file.specs.AtomFlaws.{variable_flaw, terms_flaw, sign_flaw, signs_flaw, term_flaw, atom_flaw, atoms_flaw}
use Rattle.fo_file.specs.AtomFlaws.{side_flaw}
use Rattle.fo_file.proofs.Walks.{one-term}
use Rattle.fo_file.specs.Parts.{IsSequent}
use Rattle.fo_file.specs.Flaws.{sequent_flaw}
use Rattle.fo_file.proofs.Fitted.{sides-fit}

-- a sign outside cases
abbrev pub IsOutside : Sign → Type 0
IsOutside (Variable n) = n ≤ 65534
IsOutside (Local n) = ⊥
IsOutside (Apply name n) = Unit {0}

-- each sign of an atom's terms
abbrev pub InAtom : (Sign → Type 0) → Atom → Type 0
InAtom P (Equation t u) = Each P t × Each P u
InAtom P (Predicate []) = ⊥
InAtom P (Predicate (s ∷ ss)) = Each P ss

module _ (cs : List Heading) where
  sign-outside : (m k : ℕ) (limit : Found) (s : Sign) → FitsSign false s → sign_flaw cs InNode m k limit s ≡ None
      → IsOutside s
  sign-outside m k limit (Variable n) f e =
      let a = neither limit (or_later (terms_flaw m k) (variable_flaw InNode (k + 1) n)) e in
      let b = neither (terms_flaw m k) (variable_flaw InNode (k + 1) n) a.1 in
      at_most 65534 n (not_over _ VariableLimit (k + 1) b.1)
  sign-outside m k limit (Local n) f e = let no = f.0 in absurd cc
  sign-outside m k limit (Apply name n) f e = tt

  signs-outside : (ns : List ℕ) (m k : ℕ) (limit : Found) (ss : List Sign) (ps : List ℕ) → length ss ≤ length ps
      → FitSigns false ss
      → signs_flaw cs InNode ns m k limit ss ps ≡ None → Each IsOutside ss
  signs-outside ns m k limit [] ps le f e = tt
  signs-outside ns m k limit (s ∷ ss) [] le f e = absurd (omega arith)
  signs-outside ns m k limit (s ∷ ss) (p ∷ ps) le f e =
      let here = or_later limit (argument_flaw ns (k + p)) in
      let both = neither (sign_flaw cs InNode m (k + p) here s)
      (signs_flaw cs InNode (numbers_behind s ns) (m + 1) k None ss ps) e in (
        sign-outside m (k + p) here s f.0 both.0,
        signs-outside (numbers_behind s ns) (m + 1) k None ss ps (omega arith)
            f.1 both.1,
      )

  term-outside : (m k : ℕ) (limit : Found) (t : List Sign) → (term false).fits t
      → term_flaw cs InNode m k limit t ≡ None → Each IsOutside t
  term-outside m k limit t f e =
      let signs = term-signs false t f in
      let count = places-count t signs.0 in
      signs-outside [] m k limit t (places_of t) (omega arith) signs.1 e

  module _ (ps : List Heading) where
    atom-outside : (m k : ℕ) (limit : Found) (a : Atom) → IsAtom a → (atom false).fits a
        → atom_flaw cs InNode ps m k limit a ≡ None → InAtom IsOutside a
    atom-outside m k limit (Equation t u) is f e =
        let both = neither (term_flaw cs InNode m k limit t)
        (term_flaw cs InNode (m + length t) (k + tokens_in t + 1) None u) e in
        let parts = sides false t u f in (
          term-outside m k limit t parts.left both.0,
          term-outside (m + length t) (k + tokens_in t + 1) None u parts.right both.1,
        )
    atom-outside m k limit (Predicate []) is f e = absurd is
    atom-outside m k limit (Predicate (Variable n ∷ ss)) is f e = absurd is
    atom-outside m k limit (Predicate (Local n ∷ ss)) is f e = absurd is
    atom-outside m k limit (Predicate (Apply name n ∷ ss)) is f e =
        let places = drop 1 (places_of (Apply name n ∷ ss)) in
        let count : length (places_of (Apply name n ∷ ss))
        ≡ length (Apply name n ∷ ss) + 1 = places-count (Apply name n ∷ ss) (one-term name n ss is) in
        let some : length (places_of (Apply name n ∷ ss)) ≡ suc (length places) = refl in
        let signs = (term-signs false (Apply name n ∷ ss) (alone false (Apply name n ∷ ss) f).fits).1 in
        let a = neither (use_flaw (arity_in ps name) n k)
        (or_later limit (signs_flaw cs InNode (numbers n) m k None ss places)) e in
        let b = neither limit (signs_flaw cs InNode (numbers n) m k None ss places) a.1 in
        signs-outside (numbers n) m k None ss places (omega arith) signs.1 b.1

    atoms-outside : (most n m k : ℕ) (limit : Found) (xs : List Atom) → AreAtoms xs → Each (atom false).fits xs
        → atoms_flaw cs InNode ps most n m k limit xs ≡ None → Each (InAtom IsOutside) xs
    atoms-outside most n m k limit [] are f e = tt
    atoms-outside most n m k limit (a ∷ more) are f e =
        let here = or_later limit (over_if (nat_le most n) Atoms k) in
        let both = neither (atom_flaw cs InNode ps m k here a)
        (atoms_flaw cs InNode ps most (n + 1) (m + terms_in a) (k + atom_span a) None more) e in (
          atom-outside m k here a are.0 f.0 both.0,
          atoms-outside most (n + 1) (m + terms_in a) (k + atom_span a) None more are.1 f.1 both.1,
        )

    side-outside : (most m k : ℕ) (limit : Found) (xs : List Atom) → AreAtoms xs → Each (atom false).fits xs
        → side_flaw cs InNode ps most m k limit xs ≡ None → Each (InAtom IsOutside) xs
    side-outside most m k limit [] are f e = tt
    side-outside most m k limit (a ∷ more) are f e = atoms-outside most 0 m k limit (a ∷ more) are f e

    pub sequent-outside : (k : ℕ) (s : Sequent) → IsSequent s → sequent.fits s → sequent_flaw cs ps k s ≡ None
        → Each (InAtom IsOutside) s.left × Each (InAtom IsOutside) s.right
    unfolding sequent
    sequent-outside k s is f e =
        let both = neither (side_flaw cs InNode ps 32 0 k None s.left)
        (side_flaw cs InNode ps 16 (total_terms s.left) (k + atoms_span s.left) None s.right) e in (
          side-outside 32 0 k None s.left is.0 (sides-fit true_word false s.left f.1.0) both.0,
          side-outside 16 (total_terms s.left) (k + atoms_span s.left) None s.right is.1
              (sides-fit false_word false s.right f.1.1) both.1,
        )
