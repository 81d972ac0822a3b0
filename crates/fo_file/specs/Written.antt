-- Values as trees: constructors and predicates by their names in place of their numbers.
use Rattle.std.specs.Prelude.{ℕ, List, [], ◌∷◌, length, map, Option, Some, None, slice_get}
use Rattle.std.specs.List.{flat_map}
use Rattle.heap_formula.specs.declared.proof_rules.Side.{Side}
use Rattle.heap_formula.specs.declared.proof_rules.Side.TheVariants as sides
use Rattle.fo_formula.specs.declared.terms.Sign.{Sign as SignValue}
use Rattle.fo_formula.specs.declared.terms.Sign.TheVariants as signs
use Rattle.fo_formula.specs.declared.atoms.FoAtom.{FoAtom}
use Rattle.fo_formula.specs.declared.atoms.FoAtom.TheVariants as atoms
use Rattle.fo_formula.specs.declared.sequents.FoSequent.{FoSequent}
use Rattle.fo_formula.specs.declared.theory.Constructor.{Constructor as ConstructorValue}
use Rattle.fo_formula.specs.declared.theory.FoDefinition.{FoDefinition}
use Rattle.fo_formula.specs.declared.theory.FoTheory.{FoTheory}
use Rattle.fo_formula.specs.declared.nodes.FoRule.{FoRule}
use Rattle.fo_formula.specs.declared.nodes.FoRule.TheVariants as rules
use Rattle.fo_formula.specs.declared.nodes.FoLink.{FoLink}
use Rattle.fo_formula.specs.declared.nodes.FoReason.{FoReason}
use Rattle.fo_formula.specs.declared.nodes.FoReason.TheVariants as reasons
use Rattle.fo_formula.specs.Nodes.{FoNode}
use Rattle.fo_formula.specs.declared.nodes.FoFile.{FoFile}
use Rattle.fo_formula.specs.Words.{Word}
use Rattle.fo_syntax.specs.Trees.{Sign, Variable, Local, Apply, Atom, Equation, Predicate}
use Rattle.fo_syntax.specs.ProblemTrees.{Constructor, Definition, Sequent, Problem}
use Rattle.fo_syntax.specs.declared.proofs.tree.SideTree.{SideTree}
use Rattle.fo_syntax.specs.declared.proofs.tree.SideTree.TheVariants.{Left, Right as RightSide}
use Rattle.fo_syntax.specs.ProofTrees.{Entry, LinkData, Reason, Axiom, Refl, Clash, Decompose, Replace, WeakenLeft}
use Rattle.fo_syntax.specs.ProofTrees.{WeakenRight, Contract, Unfold, Cut, Right, Link, Node, File}
use Rattle.fo_file.specs.declared.values.problem.FoProblem.{FoProblem}

abbrev pub constructor_tree : ConstructorValue → Constructor
constructor_tree c = record { name = c.name; arguments = c.arguments }

abbrev pub side_tree : Side → SideTree
side_tree sides.Left = Left
side_tree sides.Right = RightSide

abbrev pub constructor_name_in : Option ConstructorValue → List ℕ
constructor_name_in (Some c) = c.name
constructor_name_in None = []

abbrev pub predicate_name_in : Option FoDefinition → List ℕ
predicate_name_in (Some d) = d.name
predicate_name_in None = []

-- ---- over the theory

module _ (t : FoTheory) where
  -- the name of the constructor with this number, empty where there is none
  abbrev pub constructor_name : ℕ → List ℕ
  constructor_name c = constructor_name_in (slice_get t.constructors c)

  abbrev pub predicate_name : ℕ → List ℕ
  predicate_name p = predicate_name_in (slice_get t.definitions p)

  abbrev pub sign_tree : SignValue → Sign
  sign_tree (signs.Universal n) = Variable n
  sign_tree (signs.Local n) = Local n
  sign_tree (signs.Constructor c k) = Apply (constructor_name c) k

  abbrev pub term_tree : Word → List Sign
  term_tree w = map sign_tree w

  -- a predicate's name with the words of its arguments, one after the other
  abbrev pub atom_tree : FoAtom → Atom
  atom_tree (atoms.Equation l r) = Equation (term_tree l) (term_tree r)
  atom_tree (atoms.Predicate p ts) = Predicate (Apply (predicate_name p) (length ts) ∷ flat_map term_tree ts)

  abbrev pub atoms_tree : List FoAtom → List Atom
  atoms_tree xs = map atom_tree xs

  abbrev pub sequent_tree : FoSequent → Sequent
  sequent_tree s = record { left = atoms_tree s.left; right = atoms_tree s.right }

  abbrev pub definition_tree : FoDefinition → Definition
  definition_tree d = record { name = d.name; arity = d.arity; cases = map atoms_tree d.cases }

  abbrev pub entry_tree : ℕ × Word → Entry
  entry_tree p = record { variable = p.0; value = term_tree p.1 }

  abbrev pub link_tree : FoLink → LinkData
  link_tree l = record {
    target = l.to;
    substitution = map entry_tree l.substitution;
    left = l.left_map;
    right = l.right_map;
  }

  abbrev pub rule_tree : FoRule → Reason
  rule_tree (rules.Axiom i j) = Axiom i j
  rule_tree (rules.Refl j) = Refl j
  rule_tree (rules.Clash i) = Clash i
  rule_tree (rules.Decompose i) = Decompose i
  rule_tree (rules.Replace i side) = Replace i (side_tree side)
  rule_tree (rules.WeakenLeft i) = WeakenLeft i
  rule_tree (rules.WeakenRight j) = WeakenRight j
  rule_tree (rules.Contract i) = Contract i
  rule_tree (rules.Unfold i) = Unfold i
  rule_tree (rules.Cut x) = Cut (atom_tree x)
  rule_tree (rules.Right j c ts) = Right j c (map term_tree ts)

  abbrev pub reason_tree : FoReason → Reason
  reason_tree (reasons.Rule rule) = rule_tree rule
  reason_tree (reasons.Link link) = Link (link_tree link)

  abbrev pub node_tree : FoNode → Node
  node_tree n = record { sequent = sequent_tree n.judgement; reason = reason_tree n.reason; premises = n.premises }

abbrev pub file_tree : FoFile → File
file_tree f = record {
  constructors = map constructor_tree f.theory.constructors;
  definitions = map (definition_tree f.theory) f.theory.definitions;
  nodes = map (node_tree f.theory) f.nodes;
}

abbrev pub problem_tree : FoProblem → Problem
problem_tree p = record {
  constructors = map constructor_tree p.theory.constructors;
  definitions = map (definition_tree p.theory) p.theory.definitions;
  goal = sequent_tree p.theory p.goal;
}
