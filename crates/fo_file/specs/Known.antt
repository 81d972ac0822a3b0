-- Trees whose names are known, with the right numbers of arguments, and whose numbers fit the values' types.
use Rattle.std.specs.Prelude.{◌≡◌, ℕ, ◌<◌, List, [], ◌∷◌, Some}
use Rattle.heap_formula.specs.Words.{Each}
use Rattle.heap_reader.specs.Trees.{Heading}
use Rattle.heap_reader.specs.Flaws.{arity_in}
use Rattle.fo_syntax.specs.Trees.{Sign, Variable, Local, Apply, AreTerms, Atom, Equation, Predicate}
use Rattle.fo_syntax.specs.ProblemTrees.{Constructor, Definition, Sequent, Problem}
use Rattle.fo_syntax.specs.ProofTrees.{Entry, Reason, Axiom, Refl, Clash, Decompose, Replace, WeakenLeft, WeakenRight}
use Rattle.fo_syntax.specs.ProofTrees.{Contract, Unfold, Cut, Right, Link, Node, File}

abbrev pub IsNarrow : Constructor → Type 0
IsNarrow c = c.arguments < 256

-- ---- over the constructors

module _ (constructors : List Heading) where
  abbrev pub IsKnownSign : Sign → Type 0
  IsKnownSign (Variable n) = n < 65536
  IsKnownSign (Local n) = n < 65536
  IsKnownSign (Apply name n) = (n < 256) × (arity_in constructors name ≡ Some n)

  -- so many terms, one after the other
  abbrev pub AreKnownTerms : ℕ → List Sign → Type 0
  AreKnownTerms n ss = AreTerms n ss × Each IsKnownSign ss

  abbrev pub IsKnownTerm : List Sign → Type 0
  IsKnownTerm t = AreKnownTerms 1 t

  abbrev pub IsKnownEntry : Entry → Type 0
  IsKnownEntry e = (e.variable < 65536) × IsKnownTerm e.value

  -- ---- over the predicates too

  module _ (predicates : List Heading) where
    -- a predicate's name with its arguments
    abbrev pub IsKnownUse : List Sign → Type 0
    IsKnownUse [] = ⊥
    IsKnownUse (Variable n ∷ ss) = ⊥
    IsKnownUse (Local n ∷ ss) = ⊥
    IsKnownUse (Apply name n ∷ ss) = (arity_in predicates name ≡ Some n) × AreKnownTerms n ss

    abbrev pub IsKnownAtom : Atom → Type 0
    IsKnownAtom (Equation t u) = IsKnownTerm t × IsKnownTerm u
    IsKnownAtom (Predicate t) = IsKnownUse t

    abbrev pub AreKnownAtoms : List Atom → Type 0
    AreKnownAtoms xs = Each IsKnownAtom xs

    abbrev pub IsKnownSequent : Sequent → Type 0
    IsKnownSequent s = AreKnownAtoms s.left × AreKnownAtoms s.right

    abbrev pub IsKnownDefinition : Definition → Type 0
    IsKnownDefinition d = (d.arity < 256) × Each AreKnownAtoms d.cases

    abbrev pub IsKnownReason : Reason → Type 0
    IsKnownReason (Axiom i j) = Unit {0}
    IsKnownReason (Refl j) = Unit {0}
    IsKnownReason (Clash i) = Unit {0}
    IsKnownReason (Decompose i) = Unit {0}
    IsKnownReason (Replace i side) = Unit {0}
    IsKnownReason (WeakenLeft i) = Unit {0}
    IsKnownReason (WeakenRight j) = Unit {0}
    IsKnownReason (Contract i) = Unit {0}
    IsKnownReason (Unfold i) = Unit {0}
    IsKnownReason (Cut a) = IsKnownAtom a
    IsKnownReason (Right j k ts) = Each IsKnownTerm ts
    IsKnownReason (Link l) = Each IsKnownEntry l.substitution

    abbrev pub IsKnownNode : Node → Type 0
    IsKnownNode n = IsKnownSequent n.sequent × IsKnownReason n.reason

    abbrev pub IsKnownTheory : List Constructor → List Definition → Type 0
    IsKnownTheory cs ds = Each IsNarrow cs × Each IsKnownDefinition ds

    abbrev pub IsKnownFile : File → Type 0
    IsKnownFile f = IsKnownTheory f.constructors f.definitions × Each IsKnownNode f.nodes

    abbrev pub IsKnownProblem : Problem → Type 0
    IsKnownProblem p = IsKnownTheory p.constructors p.definitions × IsKnownSequent p.goal
