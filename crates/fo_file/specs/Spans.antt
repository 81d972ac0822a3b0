-- How many tokens the parts of a text have, the one token after an atom, a term, a sequent or a reason counted in, and
-- how many terms.
use Rattle.std.specs.Prelude.{ℕ, ◌+◌, List, length}
use Rattle.heap_reader.specs.Spans.{total, total_or, premises_rest}
use Rattle.fo_syntax.specs.Trees.{Sign}
use Rattle.fo_syntax.specs.Places.{tokens_in}
use Rattle.fo_syntax.specs.ProblemTrees.{Constructor, Definition, Sequent, Problem}
use Rattle.fo_syntax.specs.ProofTrees.{Entry, LinkData, Reason, Axiom, Refl, Clash, Decompose, Replace, WeakenLeft}
use Rattle.fo_syntax.specs.ProofTrees.{WeakenRight, Contract, Unfold, Cut, Right, Link, Node, File}
use Rattle.fo_file.specs.AtomSpans.{atom_span, atoms_span, terms_in, total_terms}

-- "con", the name, the number, and ";"; nothing after it
abbrev pub constructor_span : Constructor → ℕ
constructor_span c = 4

-- "pred", the name, "(", the arity, ")", "{", the cases, and ";"; nothing after it
abbrev pub definition_span : Definition → ℕ
definition_span d = 6 + total atoms_span d.cases + 1

-- "|-" stands after the left side
abbrev pub sequent_span : Sequent → ℕ
sequent_span s = atoms_span s.left + atoms_span s.right

abbrev pub sequent_terms : Sequent → ℕ
sequent_terms s = total_terms s.left + total_terms s.right

-- ---- reasons: the word, what stands after it, and one token more

abbrev pub term_span : List Sign → ℕ
term_span t = tokens_in t + 1

-- "$", the number, ":=" and the value
abbrev pub entry_span : Entry → ℕ
entry_span e = 3 + term_span e.value

abbrev pub entry_terms : Entry → ℕ
entry_terms e = length e.value

-- the number, "{", the entries, and the two lists with a bracket on each side
abbrev pub link_span : LinkData → ℕ
link_span l = 2 + total_or 1 entry_span l.substitution + (1 + length l.left + 1) + (1 + length l.right + 1)

abbrev pub reason_span : Reason → ℕ
reason_span (Axiom i j) = 4
reason_span (Refl j) = 3
reason_span (Clash i) = 3
reason_span (Decompose i) = 3
reason_span (Replace i side) = 4
reason_span (WeakenLeft i) = 3
reason_span (WeakenRight j) = 3
reason_span (Contract i) = 3
reason_span (Unfold i) = 3
reason_span (Cut a) = 1 + atom_span a
reason_span (Right j k ts) = 4 + total_or 1 term_span ts + 1
reason_span (Link l) = 1 + link_span l + 1

abbrev pub reason_terms : Reason → ℕ
reason_terms (Axiom i j) = 0
reason_terms (Refl j) = 0
reason_terms (Clash i) = 0
reason_terms (Decompose i) = 0
reason_terms (Replace i side) = 0
reason_terms (WeakenLeft i) = 0
reason_terms (WeakenRight j) = 0
reason_terms (Contract i) = 0
reason_terms (Unfold i) = 0
reason_terms (Cut a) = terms_in a
reason_terms (Right j k ts) = total length ts
reason_terms (Link l) = total entry_terms l.substitution

-- ---- nodes and texts

-- "node" and its parts; nothing after it
abbrev pub node_span : Node → ℕ
node_span n = 1 + sequent_span n.sequent + reason_span n.reason + premises_rest n.premises

-- the token after the definitions; four tokens stand before the first constructor
abbrev pub behind_theory : List Constructor → List Definition → ℕ
behind_theory cs ds = 4 + total constructor_span cs + total definition_span ds

-- the token after the nodes of a proof file, and the one after the goal of a problem file
abbrev pub file_end : File → ℕ
file_end f = behind_theory f.constructors f.definitions + total node_span f.nodes

abbrev pub problem_end : Problem → ℕ
problem_end p = behind_theory p.constructors p.definitions + 1 + sequent_span p.goal
