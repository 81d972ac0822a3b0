-- How many tokens the parts of a file have, the one token after a part counted in.
use Rattle.std.specs.Prelude.{ℕ, ◌+◌, length}
use Rattle.heap_reader.specs.Spans.{total, total_or, heap_span, premises_rest}
pub use Rattle.heap_reader.specs.DefinitionSpans.{term_span, definition_span}
use Rattle.proof_syntax.specs.declared.tree.PairTree.{PairTree}
use Rattle.proof_syntax.specs.Trees.{Entailment, Judgement, Entails, From, LinkData, Reason, Absurd, Rewrite, Split}
use Rattle.proof_syntax.specs.Trees.{Distinct, Weaken, Unfold, Cut, Done, Choose, PureRight, Instantiate, Frame}
use Rattle.proof_syntax.specs.Trees.{UnfoldRight, Exec, Drop, Link, Node}

-- a program variable: "$" and its number
abbrev pub variable_span : ℕ → ℕ
variable_span n = 3

-- the turnstile stands after the antecedent, and "by" after the last disjunct
abbrev pub entailment_span : Entailment → ℕ
entailment_span e = heap_span term_span e.antecedent + total (heap_span term_span) e.disjuncts

-- "from", the number, "given" and the state, after which "by" stands
abbrev pub judgement_span : Judgement → ℕ
judgement_span (Entails e) = entailment_span e
judgement_span (From n h) = 3 + heap_span term_span h

-- "$", the number, ":=", the value
abbrev pub pair_span : PairTree → ℕ
pair_span p = 3 + term_span p.value

-- the word, the target, "{", the pairs and "}", then the two lists in brackets
abbrev pub link_span : LinkData → ℕ
link_span l = 3 + total_or 1 pair_span l.substitution + (2 + length l.mapped) + (2 + length l.disjuncts) + 1

abbrev pub reason_span : Reason → ℕ
reason_span Absurd = 2
reason_span (Rewrite k side) = 4
reason_span (Split t u) = term_span t + term_span u
reason_span (Distinct i j) = 4
reason_span (Weaken k) = 3
reason_span (Unfold k) = 3
reason_span (Cut places formula) = 3 + length places + heap_span term_span formula
reason_span Done = 2
reason_span (Choose j) = 3
reason_span (PureRight k) = 3
reason_span (Instantiate v t) = 3 + term_span t
reason_span (Frame i j) = 4
reason_span (UnfoldRight j c) = 4
reason_span Exec = 2
reason_span (Drop k) = 3
reason_span (Link l) = link_span l

-- "node" and what follows it; nothing after it
abbrev pub node_span : Node → ℕ
node_span n = 1 + judgement_span n.judgement + reason_span n.reason + premises_rest n.premises
