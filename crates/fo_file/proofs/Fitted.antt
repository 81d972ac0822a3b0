-- The parts of a text that fits fit.
use Rattle.std.proofs.Common.{◌<◌, Bool, false, List, [], ◌∷◌, length, arith}
use Rattle.heap_formula.specs.Words.{Each}
use Rattle.cyc_grammar.specs.Syntax.{Class, after}
use Rattle.heap_syntax.specs.Words.{comma}
use Rattle.fo_syntax.specs.Trees.{Sign, Atom}
use Rattle.fo_syntax.specs.Grammar.{term, atom}
use Rattle.fo_syntax.specs.ProblemTrees.{Definition, Problem}
use Rattle.fo_syntax.specs.ProblemGrammar.{atoms, atoms_or, constructors, definition, definitions, sequent, goal}
use Rattle.fo_syntax.specs.ProblemGrammar.{problem_body, problem}
use Rattle.fo_syntax.specs.ProofTrees.{Entry, Node, File}
use Rattle.fo_syntax.specs.ProofGrammar.{terms, entry, entries, node, nodes, body, file}
use Rattle.heap_reader.proofs.Members.{many_fit}

pub sides-fit : (none : Class (Unit {0})) (b : Bool) (xs : List Atom) → (atoms_or none b).fits xs
    → Each (atom b).fits xs
unfolding atoms_or atoms
sides-fit none b [] f = tt
sides-fit none b (a ∷ more) f = many_fit (after comma (atom b)) (a ∷ more) f.1.1

pub terms-fit : (ts : List (List Sign)) → terms.fits ts → Each (term false).fits ts
unfolding terms
terms-fit [] f = tt
terms-fit (t ∷ ts) f = many_fit (after comma (term false)) (t ∷ ts) f.1.1

pub entries-fit : (es : List Entry) → entries.fits es → Each entry.fits es
unfolding entries
entries-fit [] f = tt
entries-fit (e ∷ es) f = many_fit (after comma entry) (e ∷ es) f.1.1

pub nodes-fit : (ns : List Node) → nodes.fits ns → Each node.fits ns
unfolding nodes
nodes-fit [] f = tt
nodes-fit (n ∷ ns) f = (f.1.0, many_fit node ns f.1.1)

pub some-node : (ns : List Node) → nodes.fits ns → 0 < length ns
unfolding nodes
some-node [] f = let some = f.0 in absurd (omega arith)
some-node (n ∷ ns) f = omega arith

pub definitions-fit : (ds : List Definition) → definitions.fits ds → Each definition.fits ds
unfolding definitions
definitions-fit ds f = many_fit definition ds f

-- ---- texts

pub record FileParts (f : File) : Type 0 where
  pub constructors : constructors.fits f.constructors
  pub definitions : definitions.fits f.definitions
  pub nodes : nodes.fits f.nodes

pub file-parts : (f : File) → file.fits f → FileParts f
unfolding file body
file-parts f fits = record { constructors = fits.1.0; definitions = fits.1.1.0; nodes = fits.1.1.1 }

pub record ProblemParts (p : Problem) : Type 0 where
  pub constructors : constructors.fits p.constructors
  pub definitions : definitions.fits p.definitions
  pub goal : sequent.fits p.goal

pub problem-parts : (p : Problem) → problem.fits p → ProblemParts p
unfolding problem problem_body goal
problem-parts p fits = record { constructors = fits.1.0; definitions = fits.1.1.0; goal = fits.1.1.1 }
