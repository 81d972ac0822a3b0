-- A flaw stands at a token of its part.
use Rattle.std.proofs.Common.{ℕ, ◌+◌, List, length, arith}
use Rattle.std.specs.Prelude.{◌||◌, nat_eq, nat_lt, nat_le}
use Rattle.cyc_basics.specs.declared.limits.Limits.{Limits}
use Rattle.cyc_lex.specs.declared.fault.What.TheVariants.{Disjuncts, Nodes, ProgramVariables, Variable}
use Rattle.cyc_lex.specs.declared.fault.IllFault.TheVariants.{NoLine}
use Rattle.proof_syntax.specs.declared.tree.PairTree.{PairTree}
use Rattle.proof_syntax.specs.Trees.{Entailment, Judgement, Entails, From, Reason, Absurd, Rewrite, Split, Distinct}
use Rattle.proof_syntax.specs.Trees.{Weaken, Unfold, Cut, Done, Choose, PureRight, Instantiate, Frame, UnfoldRight}
use Rattle.proof_syntax.specs.Trees.{Exec, Drop, Link, Node, File}
use Rattle.heap_syntax.specs.Versions.{limits}
use Rattle.heap_reader.specs.Trees.{Heading}
use Rattle.heap_reader.specs.Spans.{total, total_or, heap_span}
use Rattle.heap_reader.specs.Flaws.{ill_if, over_if, or_later, listed_flaw, heap_flaw, heaps_flaw}
use Rattle.heap_reader.proofs.WithinSpans.{Before, first_before, over_before, ill_before, later, listed_before}
use Rattle.heap_reader.proofs.WithinSpans.{listed_or_before, heaps_before}
use Rattle.heap_reader.proofs.LineWithinSpans.{lines_before}
use Rattle.heap_reader.proofs.EndWithinSpans.{ends_before}
use Rattle.heap_reader.specs.EndFlaws.{stops_at}
use Rattle.heap_reader.specs.declared.definitions.scope.Scope.TheVariants.{Outside as InNode, End as InEnd}
use Rattle.heap_reader.proofs.DefinitionWithinSpans.{term_before, some_span, outside_before, definition_before}
use Rattle.proof_file.specs.Spans.{term_span, variable_span, definition_span, entailment_span, judgement_span}
use Rattle.proof_file.specs.Spans.{pair_span, reason_span, node_span}
use Rattle.proof_file.specs.Flaws.{headings, term_flaw, variable_flaw, program_flaw, definition_flaw, entailment_flaw}
use Rattle.proof_file.specs.Flaws.{judgement_flaw, pair_flaw, reason_flaw, node_flaw, first_line, first_node}
use Rattle.proof_file.specs.Flaws.{first_end, file_ends_flaw, nodes_flaw, file_flaw}

-- ---- lines

variable_before : (k v : ℕ) → Before (variable_flaw k v) (k + variable_span v)
variable_before k v = over_before (nat_lt 63 v) ProgramVariables (k + 1) (k + 3) (omega arith)

-- ---- nodes

module _ (most : Limits) (hs : List Heading) where
  entailment_before : (k : ℕ) (e : Entailment) → Before (entailment_flaw most hs k e) (k + entailment_span e)
  entailment_before k e =
      let m = k + entailment_span e in
      let p = k + heap_span term_span e.antecedent in
      let left = heap_flaw (term_flaw InNode) term_span most hs k e.antecedent in
      let right = heaps_flaw (term_flaw InNode) term_span most hs Disjuncts p e.disjuncts in
      first_before left right m (later left p m (omega arith) (outside_before most hs k e.antecedent))
      (later right (p + total (heap_span term_span) e.disjuncts) m (omega arith)
      (heaps_before (term_flaw InNode) term_span some_span (term_before InNode) most hs Disjuncts p e.disjuncts))

  judgement_before : (count k : ℕ) (j : Judgement) → Before (judgement_flaw most hs count k j) (k + judgement_span j)
  judgement_before count k (Entails e) = entailment_before k e
  judgement_before count k (From n h) =
      let m = k + judgement_span (From n h) in
      let out = nat_eq n 0 || nat_lt count n in
      let state = heap_flaw (term_flaw InNode) term_span most hs (k + 3) h in
      first_before (ill_if out NoLine (k + 1)) state m (ill_before out NoLine (k + 1) m (omega arith))
      (later state (k + 3 + heap_span term_span h) m (omega arith) (outside_before most hs (k + 3) h))

  pair_before : (k : ℕ) (p : PairTree) → Before (pair_flaw k p) (k + pair_span p)
  pair_before k p =
      let m = k + pair_span p in
      first_before (over_if (nat_lt 65534 p.variable) Variable (k + 1)) (term_flaw InNode (k + 3) p.value) m
      (over_before (nat_lt 65534 p.variable) Variable (k + 1) m (omega arith))
      (later (term_flaw InNode (k + 3) p.value) (k + 3 + term_span p.value) m (omega arith)
      (term_before InNode (k + 3) p.value))

  reason_before : (k : ℕ) (r : Reason) → Before (reason_flaw most hs k r) (k + reason_span r)
  reason_before k (Split t u) =
      let s = some_span t in
      let v = some_span u in
      let m = k + reason_span (Split t u) in
      first_before (term_flaw InNode (k + 1) t) (term_flaw InNode (k + term_span t) u) m
      (later (term_flaw InNode (k + 1) t) (k + 1 + term_span t) m (omega arith) (term_before InNode (k + 1) t))
      (later (term_flaw InNode (k + term_span t) u) (k + term_span t + term_span u) m (omega arith)
      (term_before InNode (k + term_span t) u))
  reason_before k (Cut places formula) =
      later (heap_flaw (term_flaw InNode) term_span most hs (k + 3 + length places) formula)
      (k + 3 + length places + heap_span term_span formula) (k + reason_span (Cut places formula)) (omega arith)
      (outside_before most hs (k + 3 + length places) formula)
  reason_before k (Instantiate v t) =
      let m = k + reason_span (Instantiate v t) in
      first_before (over_if (nat_lt 65534 v) Variable (k + 2)) (term_flaw InNode (k + 3) t) m
      (over_before (nat_lt 65534 v) Variable (k + 2) m (omega arith))
      (later (term_flaw InNode (k + 3) t) (k + 3 + term_span t) m (omega arith) (term_before InNode (k + 3) t))
  reason_before k (Link l) =
      later (listed_flaw (λ n. pair_flaw) pair_span 0 (k + 3) l.substitution)
      (k + 3 + total_or 1 pair_span l.substitution) (k + reason_span (Link l)) (omega arith)
      (listed_or_before (λ n. pair_flaw) pair_span 1 (λ n. pair_before) (k + 3) l.substitution)
  reason_before k Absurd = tt
  reason_before k (Rewrite i s) = tt
  reason_before k (Distinct i j) = tt
  reason_before k (Weaken i) = tt
  reason_before k (Unfold i) = tt
  reason_before k Done = tt
  reason_before k (Choose j) = tt
  reason_before k (PureRight i) = tt
  reason_before k (Frame i j) = tt
  reason_before k (UnfoldRight j c) = tt
  reason_before k Exec = tt
  reason_before k (Drop i) = tt

  pub node_before : (count n k : ℕ) (x : Node) → Before (node_flaw most hs count n k x) (k + node_span x)
  node_before count n k x =
      let m = k + node_span x in
      let p = k + 1 + judgement_span x.judgement in
      let judgement = judgement_flaw most hs count (k + 1) x.judgement in
      let reason = reason_flaw most hs p x.reason in
      first_before (over_if (nat_le 20000 n) Nodes k) (or_later judgement reason) m
      (over_before (nat_le 20000 n) Nodes k m (omega arith))
      (first_before judgement reason m (later judgement p m (omega arith)
      (judgement_before count (k + 1) x.judgement)) (later reason (p + reason_span x.reason) m (omega arith)
      (reason_before p x.reason)))

-- a file's flaw stands at a token before its last statement
pub file_before : (f : File) → Before (file_flaw f) (first_node f + total node_span f.nodes)
file_before f =
    let ds = f.definitions in
    let hs = headings ds in
    let most = limits f.version in
    let count = length f.lines in
    let m = first_node f + total node_span f.nodes in
    let definitions = listed_flaw (definition_flaw most hs) definition_span 0 4 ds in
    let program = program_flaw most (first_line f) f.lines in
    let ends = file_ends_flaw f in
    first_before definitions (or_later program (or_later ends (nodes_flaw f))) m
    (later definitions (first_line f) m (omega arith) (listed_before (definition_flaw most hs) definition_span
    (definition_before most hs) 0 4 ds)) (first_before program (or_later ends (nodes_flaw f)) m
    (later program (first_end f) m (omega arith) (lines_before variable_flaw variable_span variable_before
    most (first_line f) f.lines)) (first_before ends (nodes_flaw f) m
    (later ends (first_node f) m (omega arith) (ends_before (term_flaw InEnd) term_span some_span (term_before InEnd)
    most hs (stops_at f.lines) 0 (first_end f) f.ends))
    (listed_before (node_flaw most hs count) node_span (node_before most hs count) 0 (first_node f) f.nodes)))
