-- Proofs whose predicates have terms as arguments. Of other words the tree of an atom does not tell where one ends.
use Rattle.std.specs.Prelude.{List}
use Rattle.heap_formula.specs.Words.{Each}
use Rattle.fo_formula.specs.declared.atoms.FoAtom.{FoAtom}
use Rattle.fo_formula.specs.declared.atoms.FoAtom.TheVariants.{Equation, Predicate}
use Rattle.fo_formula.specs.declared.sequents.FoSequent.{FoSequent}
use Rattle.fo_formula.specs.declared.theory.FoDefinition.{FoDefinition}
use Rattle.fo_formula.specs.declared.nodes.FoRule.{FoRule}
use Rattle.fo_formula.specs.declared.nodes.FoRule.TheVariants.{Cut}
use Rattle.fo_formula.specs.declared.nodes.FoReason.{FoReason}
use Rattle.fo_formula.specs.declared.nodes.FoReason.TheVariants.{Rule, Link}
use Rattle.fo_formula.specs.Nodes.{FoNode}
use Rattle.fo_formula.specs.declared.nodes.FoFile.{FoFile}
use Rattle.fo_formula.specs.Words.{IsTerm}
use Rattle.fo_file.specs.declared.values.problem.FoProblem.{FoProblem}

abbrev pub IsAtomOfTerms : FoAtom → Type 0
IsAtomOfTerms (Equation l r) = Unit {0}
IsAtomOfTerms (Predicate p ts) = Each IsTerm ts

abbrev pub AreAtomsOfTerms : List FoAtom → Type 0
AreAtomsOfTerms xs = Each IsAtomOfTerms xs

abbrev pub IsSequentOfTerms : FoSequent → Type 0
IsSequentOfTerms s = AreAtomsOfTerms s.left × AreAtomsOfTerms s.right

abbrev pub IsDefinitionOfTerms : FoDefinition → Type 0
IsDefinitionOfTerms d = Each AreAtomsOfTerms d.cases

abbrev pub IsRuleOfTerms : FoRule → Type 0
IsRuleOfTerms (Cut x) = IsAtomOfTerms x
IsRuleOfTerms _ = Unit {0}

abbrev pub IsReasonOfTerms : FoReason → Type 0
IsReasonOfTerms (Rule rule) = IsRuleOfTerms rule
IsReasonOfTerms (Link link) = Unit {0}

abbrev pub IsNodeOfTerms : FoNode → Type 0
IsNodeOfTerms n = IsSequentOfTerms n.judgement × IsReasonOfTerms n.reason

abbrev pub IsFileOfTerms : FoFile → Type 0
IsFileOfTerms f = Each IsDefinitionOfTerms f.theory.definitions × Each IsNodeOfTerms f.nodes

abbrev pub IsProblemOfTerms : FoProblem → Type 0
IsProblemOfTerms p = Each IsDefinitionOfTerms p.theory.definitions × IsSequentOfTerms p.goal
