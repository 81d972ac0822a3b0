-- Trees without where they lie in memory.
use Rattle.std.specs.Prelude.{ℕ, List, map}
use Rattle.std.specs.Prelude.{Vec}
use Rattle.std.specs.Global.{Global}
use Rattle.fo_syntax.specs.Trees.{Atom, atom_of}
use Rattle.fo_syntax.specs.declared.terms.tree.AtomTree.{AtomTree}
use Rattle.fo_syntax.specs.declared.problems.tree.ConstructorTree.{ConstructorTree}
use Rattle.fo_syntax.specs.declared.problems.tree.DefinitionTree.{DefinitionTree}
use Rattle.fo_syntax.specs.declared.problems.tree.SequentTree.{SequentTree}
use Rattle.fo_syntax.specs.declared.problems.tree.ProblemTree.{ProblemTree}

pub record Constructor : Type 0 where
  pub name : List ℕ
  pub arguments : ℕ

pub record Definition : Type 0 where
  pub name : List ℕ
  pub arity : ℕ
  pub cases : List (List Atom)

pub record Sequent : Type 0 where
  pub left : List Atom
  pub right : List Atom

pub record Problem : Type 0 where
  pub constructors : List Constructor
  pub definitions : List Definition
  pub goal : Sequent

-- ---- what a contract sees of the code's trees

abbrev pub atoms_of : Vec AtomTree Global → List Atom
atoms_of v = map atom_of v.items

abbrev pub constructor_of : ConstructorTree → Constructor
constructor_of c = record { name = c.name.now; arguments = c.arguments }

abbrev pub definition_of : DefinitionTree → Definition
definition_of d = record { name = d.name.now; arity = d.arity; cases = map atoms_of d.cases.items }

abbrev pub sequent_of : SequentTree → Sequent
sequent_of s = record { left = atoms_of s.left; right = atoms_of s.right }

abbrev pub problem_of : ProblemTree → Problem
problem_of p = record {
  constructors = map constructor_of p.constructors.items;
  definitions = map definition_of p.definitions.items;
  goal = sequent_of p.goal;
}
