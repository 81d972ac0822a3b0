-- What trees say: constructors and predicates by their numbers in place of their names.
use Rattle.std.specs.Prelude.{ℕ, zero, suc, List, [], ◌∷◌, map}
use Rattle.heap_formula.specs.declared.proof_rules.Side.{Side}
use Rattle.heap_formula.specs.declared.proof_rules.Side.TheVariants as sides
use Rattle.heap_reader.specs.Trees.{Heading}
use Rattle.heap_reader.specs.Values.{place_of}
use Rattle.fo_formula.specs.declared.terms.Sign.{Sign as SignValue}
use Rattle.fo_formula.specs.declared.terms.Sign.TheVariants as signs
use Rattle.fo_formula.specs.declared.atoms.FoAtom.{FoAtom}
use Rattle.fo_formula.specs.declared.atoms.FoAtom.TheVariants as atoms
use Rattle.fo_formula.specs.declared.sequents.FoSequent.{FoSequent}
use Rattle.fo_formula.specs.declared.theory.Constructor.{Constructor as ConstructorValue}
use Rattle.fo_formula.specs.declared.theory.FoDefinition.{FoDefinition}
use Rattle.fo_formula.specs.declared.theory.FoTheory.{FoTheory}
use Rattle.fo_formula.specs.declared.nodes.FoRule.TheVariants as rules
use Rattle.fo_formula.specs.declared.nodes.FoLink.{FoLink}
use Rattle.fo_formula.specs.declared.nodes.FoReason.{FoReason}
use Rattle.fo_formula.specs.declared.nodes.FoReason.TheVariants as reasons
use Rattle.fo_formula.specs.Nodes.{FoNode}
use Rattle.fo_formula.specs.declared.nodes.FoFile.{FoFile}
use Rattle.fo_formula.specs.Words.{Word, first_term, after_first}
use Rattle.fo_syntax.specs.Trees.{Sign, Variable, Local, Apply, Atom, Equation, Predicate}
use Rattle.fo_syntax.specs.ProblemTrees.{Constructor, Definition, Sequent, Problem}
use Rattle.fo_syntax.specs.declared.proofs.tree.SideTree.{SideTree}
use Rattle.fo_syntax.specs.declared.proofs.tree.SideTree.TheVariants.{Left, Right as RightSide}
use Rattle.fo_syntax.specs.ProofTrees.{Entry, LinkData, Reason, Axiom, Refl, Clash, Decompose, Replace, WeakenLeft}
use Rattle.fo_syntax.specs.ProofTrees.{WeakenRight, Contract, Unfold, Cut, Right, Link, Node, File}
use Rattle.fo_file.specs.declared.values.problem.FoProblem.{FoProblem}

-- the first n terms of a word
abbrev pub first_terms : ℕ → Word → List Word
first_terms zero w = []
first_terms (suc n) w = first_term w ∷ first_terms n (after_first w)

abbrev pub constructor_value : Constructor → ConstructorValue
constructor_value c = record { name = c.name; arguments = c.arguments }

abbrev pub side_value : SideTree → Side
side_value Left = sides.Left
side_value RightSide = sides.Right

-- ---- over the constructors

module _ (constructors : List Heading) where
  abbrev pub sign_value : Sign → SignValue
  sign_value (Variable n) = signs.Universal n
  sign_value (Local n) = signs.Local n
  sign_value (Apply name n) = signs.Constructor (place_of constructors name) n

  abbrev pub term_value : List Sign → Word
  term_value t = map sign_value t

  abbrev pub entry_value : Entry → ℕ × Word
  entry_value e = (e.variable, term_value e.value)

  abbrev pub link_value : LinkData → FoLink
  link_value l = record {
    to = l.target;
    substitution = map entry_value l.substitution;
    left_map = l.left;
    right_map = l.right;
  }

  -- ---- over the predicates too

  module _ (predicates : List Heading) where
    -- a predicate's name with its arguments; it begins with no other sign
    abbrev pub use_value : List Sign → FoAtom
    use_value [] = atoms.Predicate 0 []
    use_value (Variable n ∷ ss) = atoms.Predicate 0 []
    use_value (Local n ∷ ss) = atoms.Predicate 0 []
    use_value (Apply name n ∷ ss) = atoms.Predicate (place_of predicates name) (first_terms n (term_value ss))

    abbrev pub atom_value : Atom → FoAtom
    atom_value (Equation t u) = atoms.Equation (term_value t) (term_value u)
    atom_value (Predicate t) = use_value t

    abbrev pub atoms_value : List Atom → List FoAtom
    atoms_value xs = map atom_value xs

    abbrev pub sequent_value : Sequent → FoSequent
    sequent_value s = record { left = atoms_value s.left; right = atoms_value s.right }

    abbrev pub definition_value : Definition → FoDefinition
    definition_value d = record { name = d.name; arity = d.arity; cases = map atoms_value d.cases }

    abbrev pub theory_value : List Constructor → List Definition → FoTheory
    theory_value cs ds = record { constructors = map constructor_value cs; definitions = map definition_value ds }

    abbrev pub reason_value : Reason → FoReason
    reason_value (Axiom i j) = reasons.Rule (rules.Axiom i j)
    reason_value (Refl j) = reasons.Rule (rules.Refl j)
    reason_value (Clash i) = reasons.Rule (rules.Clash i)
    reason_value (Decompose i) = reasons.Rule (rules.Decompose i)
    reason_value (Replace i side) = reasons.Rule (rules.Replace i (side_value side))
    reason_value (WeakenLeft i) = reasons.Rule (rules.WeakenLeft i)
    reason_value (WeakenRight j) = reasons.Rule (rules.WeakenRight j)
    reason_value (Contract i) = reasons.Rule (rules.Contract i)
    reason_value (Unfold i) = reasons.Rule (rules.Unfold i)
    reason_value (Cut a) = reasons.Rule (rules.Cut (atom_value a))
    reason_value (Right j k ts) = reasons.Rule (rules.Right j k (map term_value ts))
    reason_value (Link l) = reasons.Link (link_value l)

    abbrev pub node_value : Node → FoNode
    node_value n = record { judgement = sequent_value n.sequent; reason = reason_value n.reason; premises = n.premises }

    abbrev pub file_value : File → FoFile
    file_value f = record { theory = theory_value f.constructors f.definitions; nodes = map node_value f.nodes }

    abbrev pub problem_value : Problem → FoProblem
    problem_value p = record { theory = theory_value p.constructors p.definitions; goal = sequent_value p.goal }
