-- Atoms whose names are known are said as atoms of signs within the limits.
use Rattle.std.proofs.Common.{◌≡◌, ℕ, zero, suc, List, [], ◌∷◌, map, Some, sym, subst}
use Rattle.std.specs.Prelude.{slice_get}
use Rattle.heap_formula.specs.Words.{Each}
use Rattle.heap_reader.specs.Trees.{Heading}
use Rattle.heap_reader.specs.Flaws.{arity_in}
use Rattle.heap_reader.specs.Values.{place_of}
use Rattle.fo_formula.specs.declared.terms.Sign.{Sign as SignValue}
use Rattle.fo_formula.specs.declared.atoms.FoAtom.{FoAtom}
use Rattle.fo_formula.specs.declared.theory.FoDefinition.{FoDefinition}
use Rattle.fo_formula.specs.declared.theory.FoTheory.{FoTheory}
use Rattle.fo_formula.specs.Values.{IsConstructor}
use Rattle.fo_logic.specs.Limits.{IsSignWithin, IsCaseSign, IsTermOf, TakesArguments, IsAtomOf, HasAtomsWithin}
use Rattle.fo_logic.specs.Limits.{IsDefinitionWithin}
use Rattle.fo_syntax.specs.Trees.{Sign, Variable, Local, Apply, Atom, Equation, Predicate}
use Rattle.fo_syntax.specs.ProblemTrees.{Definition, Sequent}
use Rattle.fo_file.specs.Flaws.{predicate_heads}
use Rattle.fo_file.specs.Values.{sign_value, term_value, atom_value, atoms_value, sequent_value, definition_value}
use Rattle.fo_file.specs.Known.{IsKnownSign, IsKnownTerm, IsKnownAtom, AreKnownAtoms, IsKnownSequent, IsKnownDefinition}
use Rattle.fo_file.proofs.Adjacent.{first-count}
use Rattle.fo_file.proofs.Names.{heading_arity, arity-there}
use Rattle.fo_file.proofs.TreesAgain.{terms-value}
use Rattle.fo_file.proofs.Open.{first-each}
use Rattle.fo_file.proofs.Outside.{IsOutside, InAtom}
use Rattle.heap_formula.proofs.AllMembers.{each_made}

-- ---- predicates

arities-at : (hs ps : List Heading) (ds : List Definition) (i n : ℕ)
    → slice_get (map heading_arity (predicate_heads ds)) i ≡ Some n
    → slice_get (map (λ (d : FoDefinition). d.arity) (map (definition_value hs ps) ds)) i ≡ Some n
arities-at hs ps [] i n e = absurd cc
arities-at hs ps (d ∷ ds) zero n e = e
arities-at hs ps (d ∷ ds) (suc i) n e = arities-at hs ps ds i n e

-- a known predicate takes as many arguments as its heading says
pub arity-placed : (hs : List Heading) (ds : List Definition) (name : List ℕ) (n : ℕ)
    → arity_in (predicate_heads ds) name ≡ Some n
    → slice_get (map (λ (d : FoDefinition). d.arity) (map (definition_value hs (predicate_heads ds)) ds))
    (place_of (predicate_heads ds) name) ≡ Some n
arity-placed hs ds name n e =
    arities-at hs (predicate_heads ds) ds (place_of (predicate_heads ds) name) n
    (arity-there (predicate_heads ds) name n e)

module _ (cs ps : List Heading) (t : FoTheory) (takes : (name : List ℕ) (n : ℕ) → arity_in ps name ≡ Some n
    → TakesArguments t (place_of ps name) n) where
  -- ---- known atoms of signs with R are said as atoms of signs with Q

  module _ (R : Sign → Type 0) (Q : SignValue → Type 0)
      (one : (s : Sign) → IsKnownSign cs s → R s → Q (sign_value cs s)) where
    signs-said : (ss : List Sign) → Each (IsKnownSign cs) ss → Each R ss → Each Q (term_value cs ss)
    signs-said [] k r = tt
    signs-said (s ∷ ss) k r = (one s k.0 r.0, signs-said ss k.1 r.1)

    term-said : (ss : List Sign) → IsKnownTerm cs ss → Each R ss → IsTermOf Q (term_value cs ss)
    term-said ss k r = (terms-value cs 1 ss k.0, signs-said ss k.1 r)

    atom-said : (a : Atom) → IsKnownAtom cs ps a → InAtom R a → IsAtomOf t Q (atom_value cs ps a)
    atom-said (Equation u v) k r = (term-said u k.0 r.0, term-said v k.1 r.1)
    atom-said (Predicate []) k r = absurd k
    atom-said (Predicate (Variable n ∷ ss)) k r = absurd k
    atom-said (Predicate (Local n ∷ ss)) k r = absurd k
    atom-said (Predicate (Apply name n ∷ ss)) k r = (
      subst (TakesArguments t (place_of ps name)) (sym (first-count n (term_value cs ss))) (takes name n k.0),
      first-each Q n (term_value cs ss) (terms-value cs n ss k.1.0) (signs-said ss k.1.1 r),
    )

    pub atoms-said : (xs : List Atom) → AreKnownAtoms cs ps xs → Each (InAtom R) xs
        → Each (IsAtomOf t Q) (atoms_value cs ps xs)
    atoms-said [] k r = tt
    atoms-said (a ∷ more) k r = (atom-said a k.0 r.0, atoms-said more k.1 r.1)

  -- ---- definitions and sequents

  known-in : (a : Atom) → IsKnownAtom cs ps a → InAtom (IsKnownSign cs) a
  known-in (Equation u v) k = (k.0.1, k.1.1)
  known-in (Predicate []) k = absurd k
  known-in (Predicate (Variable n ∷ ss)) k = absurd k
  known-in (Predicate (Local n ∷ ss)) k = absurd k
  known-in (Predicate (Apply name n ∷ ss)) k = k.1.1

  all-known-in : (xs : List Atom) → AreKnownAtoms cs ps xs → Each (InAtom (IsKnownSign cs)) xs
  all-known-in [] k = tt
  all-known-in (a ∷ more) k = (known-in a k.0, all-known-in more k.1)

  module _ (placed : (name : List ℕ) (n : ℕ) → arity_in cs name ≡ Some n
      → IsConstructor t.constructors (place_of cs name) n) where
    case-sign : (s : Sign) → IsKnownSign cs s → IsKnownSign cs s → IsCaseSign t (sign_value cs s)
    case-sign (Variable n) k r = tt
    case-sign (Local n) k r = tt
    case-sign (Apply name n) k r = placed name n k.1

    outside-sign : (s : Sign) → IsKnownSign cs s → IsOutside s → IsSignWithin t (sign_value cs s)
    outside-sign (Variable n) k r = r
    outside-sign (Local n) k r = r
    outside-sign (Apply name n) k r = placed name n k.1

    case-said : (xs : List Atom) → AreKnownAtoms cs ps xs → Each (IsAtomOf t (IsCaseSign t)) (atoms_value cs ps xs)
    case-said xs k = atoms-said (IsKnownSign cs) (IsCaseSign t) case-sign xs k (all-known-in xs k)

    pub definition-said : (d : Definition) → IsKnownDefinition cs ps d → IsDefinitionWithin t (definition_value cs ps d)
    definition-said d k =
        each_made (atoms_value cs ps) (AreKnownAtoms cs ps) (λ (xs : List FoAtom). Each (IsAtomOf t (IsCaseSign t)) xs)
        case-said d.cases k.1

    pub sequent-said : (s : Sequent) → IsKnownSequent cs ps s → Each (InAtom IsOutside) s.left
        → Each (InAtom IsOutside) s.right → HasAtomsWithin t (sequent_value cs ps s)
    sequent-said s k left right = (
      atoms-said IsOutside (IsSignWithin t) outside-sign s.left k.0 left,
      atoms-said IsOutside (IsSignWithin t) outside-sign s.right k.1 right,
    )
