-- The first flaw of a file that the grammar has: what is ill-formed or passes a limit, and at which token.
use Rattle.std.specs.Prelude.{ℕ, ◌+◌, ◌||◌, nat_eq, nat_lt, nat_le, List, length, None}
use Rattle.cyc_basics.specs.declared.limits.Limits.{Limits}
use Rattle.cyc_basics.specs.declared.limits.TheConstants.{GREATEST_PROGRAM_VARIABLE, GREATEST_VARIABLE, MOST_NODES}
use Rattle.cyc_lex.specs.declared.fault.IllFault.TheVariants.{NoLine}
use Rattle.cyc_lex.specs.declared.fault.What.TheVariants.{Disjuncts, ProgramVariables, Nodes, Variable}
use Rattle.heap_syntax.specs.Versions.{limits}
use Rattle.heap_reader.specs.Trees.{Heading}
use Rattle.heap_reader.specs.Spans.{total, heap_span}
use Rattle.heap_reader.specs.LineSpans.{line_span}
use Rattle.heap_reader.specs.Flaws.{Found, ill_if, over_if, or_later, listed_flaw, heap_flaw, heaps_flaw}
use Rattle.heap_reader.specs.LineFlaws.{lines_flaw}
use Rattle.heap_reader.specs.EndSpans.{end_span}
use Rattle.heap_reader.specs.EndFlaws.{stops_at, ends_flaw}
use Rattle.proof_syntax.specs.declared.tree.PairTree.{PairTree}
use Rattle.proof_syntax.specs.Trees.{Heap, Line, End, Entailment, Judgement, Entails, From, Reason, Absurd, Rewrite}
use Rattle.proof_syntax.specs.Trees.{Split}
use Rattle.proof_syntax.specs.Trees.{Distinct, Weaken, Unfold, Cut, Done, Choose, PureRight, Instantiate, Frame}
use Rattle.proof_syntax.specs.Trees.{UnfoldRight, Exec, Drop, Link, Node, File}
use Rattle.heap_reader.specs.declared.definitions.scope.Scope.TheVariants.{Outside as InNode, End as InEnd}
pub use Rattle.heap_reader.specs.DefinitionFlaws.{heading, headings, term_flaw, head_flaw, definition_flaw}
use Rattle.proof_file.specs.Spans.{term_span, variable_span, definition_span, judgement_span, pair_span, node_span}

-- ---- lines; each part begins at token k, and n members stand before it

-- a program variable is one of 64
abbrev pub variable_flaw : ℕ → ℕ → Found
variable_flaw k n = over_if (nat_lt GREATEST_PROGRAM_VARIABLE n) ProgramVariables (k + 1)

abbrev pub program_flaw : Limits → ℕ → List Line → Found
program_flaw most k ls = lines_flaw variable_flaw variable_span most k ls

-- the ends of a program with these lines, whose universal variables are the program's
abbrev pub program_ends_flaw : Limits → List Heading → List Line → ℕ → List End → Found
program_ends_flaw most hs ls k es = ends_flaw (term_flaw InEnd) term_span most hs (stops_at ls) 0 k es

-- ---- nodes of a file that has so many lines, within what its version allows

abbrev pub entailment_flaw : Limits → List Heading → ℕ → Entailment → Found
entailment_flaw most hs k e =
    or_later (heap_flaw (term_flaw InNode) term_span most hs k e.antecedent)
    (heaps_flaw (term_flaw InNode) term_span most hs Disjuncts (k + heap_span term_span e.antecedent) e.disjuncts)

-- the number of a line, and the symbolic state there
abbrev pub state_flaw : Limits → List Heading → ℕ → ℕ → ℕ → Heap → Found
state_flaw most hs count k n h =
    or_later (ill_if (nat_eq n 0 || nat_lt count n) NoLine (k + 1))
    (heap_flaw (term_flaw InNode) term_span most hs (k + 3) h)

abbrev pub judgement_flaw : Limits → List Heading → ℕ → ℕ → Judgement → Found
judgement_flaw most hs count k (Entails e) = entailment_flaw most hs k e
judgement_flaw most hs count k (From n h) = state_flaw most hs count k n h

abbrev pub pair_flaw : ℕ → PairTree → Found
pair_flaw k p = or_later (over_if (nat_lt GREATEST_VARIABLE p.variable) Variable (k + 1))
    (term_flaw InNode (k + 3) p.value)

abbrev pub reason_flaw : Limits → List Heading → ℕ → Reason → Found
reason_flaw most hs k Absurd = None
reason_flaw most hs k (Rewrite i side) = None
reason_flaw most hs k (Split t u) = or_later (term_flaw InNode (k + 1) t) (term_flaw InNode (k + term_span t) u)
reason_flaw most hs k (Distinct i j) = None
reason_flaw most hs k (Weaken i) = None
reason_flaw most hs k (Unfold i) = None
reason_flaw most hs k (Cut places formula) = heap_flaw (term_flaw InNode) term_span most hs (k + 3 + length places)
    formula
reason_flaw most hs k Done = None
reason_flaw most hs k (Choose j) = None
reason_flaw most hs k (PureRight i) = None
reason_flaw most hs k (Instantiate v t) = or_later (over_if (nat_lt GREATEST_VARIABLE v) Variable (k + 2))
    (term_flaw InNode (k + 3) t)
reason_flaw most hs k (Frame i j) = None
reason_flaw most hs k (UnfoldRight j c) = None
reason_flaw most hs k Exec = None
reason_flaw most hs k (Drop i) = None
reason_flaw most hs k (Link l) = listed_flaw (λ n. pair_flaw) pair_span 0 (k + 3) l.substitution

-- at most 20,000
abbrev pub node_flaw : Limits → List Heading → ℕ → ℕ → ℕ → Node → Found
node_flaw most hs count n k node =
    or_later (over_if (nat_le MOST_NODES n) Nodes k)
    (or_later (judgement_flaw most hs count (k + 1) node.judgement)
    (reason_flaw most hs (k + 1 + judgement_span node.judgement) node.reason))

-- ---- files: four tokens stand before the definitions

-- where the lines begin, where the ends do, and where the nodes do
abbrev pub first_line : File → ℕ
first_line f = 4 + total definition_span f.definitions

abbrev pub first_end : File → ℕ
first_end f = first_line f + total (line_span variable_span) f.lines

abbrev pub first_node : File → ℕ
first_node f = first_end f + total (end_span term_span) f.ends

abbrev pub file_ends_flaw : File → Found
file_ends_flaw f = program_ends_flaw (limits f.version) (headings f.definitions) f.lines (first_end f) f.ends

abbrev pub nodes_flaw : File → Found
nodes_flaw f = listed_flaw (node_flaw (limits f.version) (headings f.definitions) (length f.lines)) node_span 0
    (first_node f) f.nodes

abbrev pub file_flaw : File → Found
file_flaw f =
    or_later (listed_flaw (definition_flaw (limits f.version) (headings f.definitions))
    definition_span 0 4 f.definitions) (or_later (program_flaw (limits f.version) (first_line f) f.lines)
    (or_later (file_ends_flaw f) (nodes_flaw f)))
