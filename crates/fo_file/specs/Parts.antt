-- The terms and atoms in a text are what their grammar says.
use Rattle.heap_formula.specs.Words.{Each}
use Rattle.fo_syntax.specs.Grammar.{IsTerm}
use Rattle.fo_syntax.specs.ProblemTrees.{Definition, Sequent}
use Rattle.fo_syntax.specs.ProofTrees.{Entry, Reason, Axiom, Refl, Clash, Decompose, Replace, WeakenLeft, WeakenRight}
use Rattle.fo_syntax.specs.ProofTrees.{Contract, Unfold, Cut, Right, Link, Node}
use Rattle.fo_file.specs.AtomSpans.{IsAtom, AreAtoms}

abbrev pub IsDefinition : Definition → Type 0
IsDefinition d = Each AreAtoms d.cases

abbrev pub IsSequent : Sequent → Type 0
IsSequent s = AreAtoms s.left × AreAtoms s.right

abbrev pub IsEntry : Entry → Type 0
IsEntry e = IsTerm e.value

abbrev pub IsReason : Reason → Type 0
IsReason (Axiom i j) = Unit {0}
IsReason (Refl j) = Unit {0}
IsReason (Clash i) = Unit {0}
IsReason (Decompose i) = Unit {0}
IsReason (Replace i side) = Unit {0}
IsReason (WeakenLeft i) = Unit {0}
IsReason (WeakenRight j) = Unit {0}
IsReason (Contract i) = Unit {0}
IsReason (Unfold i) = Unit {0}
IsReason (Cut a) = IsAtom a
IsReason (Right j k ts) = Each IsTerm ts
IsReason (Link l) = Each IsEntry l.substitution

abbrev pub IsNode : Node → Type 0
IsNode n = IsSequent n.sequent × IsReason n.reason
