-- What the grammar has is made of terms and atoms.
use Rattle.std.proofs.Common.{Bool, true, false, List, [], ◌∷◌}
use Rattle.cyc_grammar.specs.Syntax.{Syntax, Class, after, fits_many}
use Rattle.heap_formula.specs.Words.{Each}
use Rattle.heap_syntax.specs.Words.{true_word, comma, bar}
use Rattle.fo_syntax.specs.Words.{false_word}
use Rattle.fo_syntax.specs.Trees.{Sign, Variable, Local, Apply, Atom, Equation, Predicate}
use Rattle.fo_syntax.specs.Grammar.{application, term, atom, IsTerm}
use Rattle.fo_syntax.specs.ProblemTrees.{Definition, Sequent, Problem}
use Rattle.fo_syntax.specs.ProblemGrammar.{atoms, atoms_or, left, cases, definition, definitions, sequent, goal}
use Rattle.fo_syntax.specs.ProblemGrammar.{problem_body, problem}
use Rattle.fo_syntax.specs.ProofTrees.{Entry, Reason, Axiom, Refl, Clash, Decompose, Replace, WeakenLeft, WeakenRight}
use Rattle.fo_syntax.specs.ProofTrees.{Contract, Unfold, Cut, Right, Link, Node, File}
use Rattle.fo_syntax.specs.ProofGrammar.{terms, right_rule, entry, entries, link, parts, reason, node, nodes, body}
use Rattle.fo_syntax.specs.ProofGrammar.{file}
use Rattle.fo_file.specs.AtomSpans.{IsAtom, AreAtoms}
use Rattle.fo_file.specs.Parts.{IsDefinition, IsSequent, IsEntry, IsReason, IsNode}

term_is : (b : Bool) (t : List Sign) → (term b).fits t → IsTerm t
unfolding term
term_is b t f = f.0

atom_is : (b : Bool) (a : Atom) → (atom b).fits a → IsAtom a
unfolding atom term application
atom_is b (Equation [] u) f = absurd f.0
atom_is b (Equation (Variable n ∷ ss) u) f = (f.0, f.1.1.0)
atom_is b (Equation (Local n ∷ ss) u) f = (f.0, f.1.1.0)
atom_is b (Equation (Apply name n ∷ ss) u) f = (f.0, f.1.1.0)
atom_is b (Predicate t) f = f.1.0.0

each_is : {A : Type 0} (a : Syntax A) (P : A → Type 0) → ((x : A) → a.fits x → P x) → (xs : List A) → fits_many a xs
    → Each P xs
each_is a P is [] f = tt
each_is a P is (x ∷ xs) f = (is x f.0, each_is a P is xs f.1)

atoms_are : (none : Class (Unit {0})) (b : Bool) (xs : List Atom) → (atoms_or none b).fits xs → AreAtoms xs
unfolding atoms_or atoms
atoms_are none b [] f = tt
atoms_are none b (a ∷ more) f = each_is (after comma (atom b)) IsAtom (atom_is b) (a ∷ more) f.1.1

pub definition_is : (d : Definition) → definition.fits d → IsDefinition d
unfolding definition cases
definition_is d f = each_is (after bar (left true)) AreAtoms (atoms_are true_word true) d.cases f.1.1.1.1

pub sequent_is : (s : Sequent) → sequent.fits s → IsSequent s
unfolding sequent
sequent_is s f = (atoms_are true_word false s.left f.1.0, atoms_are false_word false s.right f.1.1)

terms_are : (ts : List (List Sign)) → terms.fits ts → Each IsTerm ts
unfolding terms
terms_are [] f = tt
terms_are (t ∷ ts) f = each_is (after comma (term false)) IsTerm (term_is false) (t ∷ ts) f.1.1

entry_is : (e : Entry) → entry.fits e → IsEntry e
unfolding entry
entry_is e f = term_is false e.value f.1.1

entries_are : (es : List Entry) → entries.fits es → Each IsEntry es
unfolding entries
entries_are [] f = tt
entries_are (e ∷ es) f = each_is (after comma entry) IsEntry entry_is (e ∷ es) f.1.1

reason_is : (r : Reason) → reason.fits r → IsReason r
unfolding reason parts right_rule link
reason_is (Axiom i j) f = tt
reason_is (Refl j) f = tt
reason_is (Clash i) f = tt
reason_is (Decompose i) f = tt
reason_is (Replace i side) f = tt
reason_is (WeakenLeft i) f = tt
reason_is (WeakenRight j) f = tt
reason_is (Contract i) f = tt
reason_is (Unfold i) f = tt
reason_is (Cut a) f = atom_is false a f.1.1
reason_is (Right j k ts) f = terms_are ts f.1.1.1.1
reason_is (Link l) f = entries_are l.substitution f.1.1.1.1.0

node_is : (n : Node) → node.fits n → IsNode n
unfolding node
node_is n f = (sequent_is n.sequent f.1.0, reason_is n.reason f.1.1.0)

nodes_are : (ns : List Node) → nodes.fits ns → Each IsNode ns
unfolding nodes
nodes_are [] f = tt
nodes_are (n ∷ ns) f = (node_is n f.1.0, each_is node IsNode node_is ns f.1.1)

pub file_is : (f : File) → file.fits f → Each IsDefinition f.definitions × Each IsNode f.nodes
unfolding file body definitions
file_is f fits = (each_is definition IsDefinition definition_is f.definitions fits.1.1.0, nodes_are f.nodes fits.1.1.1)

pub problem_is : (p : Problem) → problem.fits p → Each IsDefinition p.definitions × IsSequent p.goal
unfolding problem problem_body definitions goal
problem_is p fits = (
  each_is definition IsDefinition definition_is p.definitions fits.1.1.0,
  sequent_is p.goal fits.1.1.1,
)
