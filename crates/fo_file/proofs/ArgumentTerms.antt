-- What trees of known names say has terms as arguments.
use Rattle.std.proofs.Common.{ℕ, zero, suc, List, [], ◌∷◌, map}
use Rattle.heap_formula.specs.Words.{Each}
use Rattle.heap_reader.specs.Trees.{Heading}
use Rattle.fo_formula.specs.Words as words
use Rattle.fo_formula.specs.Words.{Word, after_first}
use Rattle.fo_formula.proofs.Reading.{first_split}
use Rattle.fo_syntax.specs.Trees.{Variable, Local, Apply, Atom, Equation, Predicate}
use Rattle.fo_syntax.specs.ProblemTrees.{Definition, Sequent, Problem}
use Rattle.fo_syntax.specs.ProofTrees.{Reason, Axiom, Refl, Clash, Decompose, Replace, WeakenLeft, WeakenRight}
use Rattle.fo_syntax.specs.ProofTrees.{Contract, Unfold, Cut, Right, Link, Node, File}
use Rattle.fo_file.specs.Values.{first_terms, term_value, atom_value, atoms_value, sequent_value, definition_value}
use Rattle.fo_file.specs.Values.{reason_value, node_value, file_value, problem_value}
use Rattle.fo_file.specs.Known.{IsKnownAtom, AreKnownAtoms, IsKnownSequent, IsKnownDefinition, IsKnownReason}
use Rattle.fo_file.specs.Known.{IsKnownNode, IsKnownFile, IsKnownProblem}
use Rattle.fo_file.proofs.TreesAgain.{terms-value}
use Rattle.fo_file.specs.OfTerms.{IsAtomOfTerms, AreAtomsOfTerms, IsSequentOfTerms, IsDefinitionOfTerms}
use Rattle.fo_file.specs.OfTerms.{IsReasonOfTerms, IsNodeOfTerms, IsFileOfTerms, IsProblemOfTerms}
use Rattle.heap_formula.proofs.AllMembers.{each_made}

first-are-terms : (n : ℕ) (w : Word) → words.AreTerms n w → Each words.IsTerm (first_terms n w)
first-are-terms zero w are = tt
first-are-terms (suc n) w are =
    let both = first_split n w are in (both.0, first-are-terms n (after_first w) both.1)

module _ (cs ps : List Heading) where
  atom-of-terms : (a : Atom) → IsKnownAtom cs ps a → IsAtomOfTerms (atom_value cs ps a)
  atom-of-terms (Equation t u) k = tt
  atom-of-terms (Predicate []) k = absurd k
  atom-of-terms (Predicate (Variable n ∷ ss)) k = absurd k
  atom-of-terms (Predicate (Local n ∷ ss)) k = absurd k
  atom-of-terms (Predicate (Apply name n ∷ ss)) k = first-are-terms n (term_value cs ss) (terms-value cs n ss k.1.0)

  atoms-of-terms : (xs : List Atom) → AreKnownAtoms cs ps xs → AreAtomsOfTerms (atoms_value cs ps xs)
  atoms-of-terms xs k = each_made (atom_value cs ps) (IsKnownAtom cs ps) IsAtomOfTerms atom-of-terms xs k

  sequent-of-terms : (s : Sequent) → IsKnownSequent cs ps s → IsSequentOfTerms (sequent_value cs ps s)
  sequent-of-terms s k = (atoms-of-terms s.left k.0, atoms-of-terms s.right k.1)

  definition-of-terms : (d : Definition) → IsKnownDefinition cs ps d → IsDefinitionOfTerms (definition_value cs ps d)
  definition-of-terms d k = each_made (atoms_value cs ps) (AreKnownAtoms cs ps)
      AreAtomsOfTerms atoms-of-terms d.cases k.1

  definitions-of-terms : (ds : List Definition) → Each (IsKnownDefinition cs ps) ds
      → Each IsDefinitionOfTerms (map (definition_value cs ps) ds)
  definitions-of-terms ds k =
      each_made (definition_value cs ps) (IsKnownDefinition cs ps) IsDefinitionOfTerms definition-of-terms ds k

  reason-of-terms : (r : Reason) → IsKnownReason cs ps r → IsReasonOfTerms (reason_value cs ps r)
  reason-of-terms (Axiom i j) k = tt
  reason-of-terms (Refl j) k = tt
  reason-of-terms (Clash i) k = tt
  reason-of-terms (Decompose i) k = tt
  reason-of-terms (Replace i side) k = tt
  reason-of-terms (WeakenLeft i) k = tt
  reason-of-terms (WeakenRight j) k = tt
  reason-of-terms (Contract i) k = tt
  reason-of-terms (Unfold i) k = tt
  reason-of-terms (Cut a) k = atom-of-terms a k
  reason-of-terms (Right j c ts) k = tt
  reason-of-terms (Link l) k = tt

  node-of-terms : (n : Node) → IsKnownNode cs ps n → IsNodeOfTerms (node_value cs ps n)
  node-of-terms n k = (sequent-of-terms n.sequent k.0, reason-of-terms n.reason k.1)

  pub file-of-terms : (f : File) → IsKnownFile cs ps f → IsFileOfTerms (file_value cs ps f)
  file-of-terms f k = (
    definitions-of-terms f.definitions k.0.1,
    each_made (node_value cs ps) (IsKnownNode cs ps) IsNodeOfTerms node-of-terms f.nodes k.1,
  )

  pub problem-of-terms : (p : Problem) → IsKnownProblem cs ps p → IsProblemOfTerms (problem_value cs ps p)
  problem-of-terms p k = (definitions-of-terms p.definitions k.0.1, sequent-of-terms p.goal k.1)
