-- A file without a flaw fits the values' types.
use Rattle.std.proofs.Common.{◌≡◌, ℕ, suc, ◌+◌, ◌<◌, ◌≤◌, List, [], ◌∷◌, false, length, None, arith, ap}
use Rattle.std.specs.Prelude.{◌||◌, nat_eq, nat_lt, nat_le}
use Rattle.cyc_basics.specs.Limits.{AreLimits}
use Rattle.cyc_basics.specs.declared.limits.Limits.{Limits}
use Rattle.heap_formula.specs.Words.{Each}
use Rattle.cyc_lex.specs.declared.fault.What.TheVariants.{Disjuncts, Nodes, ProgramVariables, Variable}
use Rattle.cyc_lex.specs.declared.fault.IllFault.TheVariants.{NoLine}
use Rattle.proof_syntax.specs.declared.tree.PairTree.{PairTree}
use Rattle.proof_syntax.specs.Trees.{Entailment, Judgement, Entails, From, Reason, Absurd, Rewrite, Split, Distinct}
use Rattle.proof_syntax.specs.Trees.{Weaken, Unfold, Cut, Done, Choose, PureRight, Instantiate, Frame, UnfoldRight}
use Rattle.proof_syntax.specs.Trees.{Exec, Drop, Link, Node, File}
use Rattle.heap_syntax.specs.Versions.{limits}
use Rattle.heap_reader.specs.Trees.{Heading}
use Rattle.heap_reader.specs.Spans.{heap_span}
use Rattle.heap_reader.specs.Flaws.{ill_if, over_if, or_later, listed_flaw, heap_flaw, heaps_flaw}
use Rattle.heap_reader.proofs.NoFlaw.{neither, not_over, at_most, below, each_of, few_all}
use Rattle.heap_reader.proofs.Fitting.{most_fits, heaps_small}
use Rattle.heap_reader.proofs.EndFitting.{HasDisjunct as EndHasDisjunct, ends_small}
use Rattle.heap_reader.specs.EndFlaws.{stops_at}
use Rattle.heap_reader.specs.declared.definitions.scope.Scope.TheVariants.{Outside as InNode, End as InEnd}
use Rattle.heap_reader.proofs.DefinitionFitting.{term_small, outside_small, definitions_small}
use Rattle.proof_file.specs.Spans.{term_span, definition_span, judgement_span, pair_span, node_span}
use Rattle.proof_file.specs.Flaws.{heading, headings, term_flaw, variable_flaw, program_flaw, definition_flaw}
use Rattle.proof_file.specs.Flaws.{entailment_flaw, judgement_flaw, pair_flaw, reason_flaw, node_flaw, first_line}
use Rattle.proof_file.specs.Flaws.{first_end, first_node, file_ends_flaw, nodes_flaw, file_flaw}
use Rattle.heap_reader.specs.LineValues.{variable_value}
use Rattle.proof_file.specs.Values.{term_value}
use Rattle.proof_file.specs.Small.{IsSmallEntailment, IsSmallJudgement, IsSmallPair, IsSmallReason, IsSmallNode}
use Rattle.proof_file.specs.Small.{IsSmallFile}
use Rattle.std.proofs.lemmas.List.{length-map}

-- ---- lines

pub variable_few : (k v : ℕ) → variable_flaw k v ≡ None → variable_value v < 64
variable_few k v e = let h = at_most 63 v (not_over _ ProgramVariables (k + 1) e) in omega arith

-- ---- nodes

-- an entailment has a disjunct
abbrev pub HasDisjunct : Judgement → Type 0
HasDisjunct (Entails e) = 0 < length e.disjuncts
HasDisjunct (From n h) = Unit {0}

module _ (most : Limits) (few : AreLimits most) (hs : List Heading) where
  entailment_small : (k : ℕ) (j : Entailment) → 0 < length j.disjuncts → entailment_flaw most hs k j ≡ None
      → IsSmallEntailment j
  entailment_small k j some e =
      let p = k + heap_span term_span j.antecedent in
      let a = neither (heap_flaw (term_flaw InNode) term_span most hs k j.antecedent)
      (heaps_flaw (term_flaw InNode) term_span most hs Disjuncts p j.disjuncts) e in
      let disjuncts = heaps_small (term_flaw InNode) term_span term_value (term_small InNode tt)
      most few hs Disjuncts p j.disjuncts a.1 in
      record {
        antecedent = outside_small most few hs k j.antecedent a.0;
        disjuncts = disjuncts.0;
        some = some;
        few = disjuncts.1;
      }

  judgement_small : (count k : ℕ) (j : Judgement) → HasDisjunct j → judgement_flaw most hs count k j ≡ None
      → IsSmallJudgement j
  judgement_small count k (Entails e) some none = entailment_small k e some none
  judgement_small count k (From n h) some none =
      outside_small most few hs (k + 3) h (neither (ill_if (nat_eq n 0 || nat_lt count n) NoLine (k + 1))
      (heap_flaw (term_flaw InNode) term_span most hs (k + 3) h) none).1

  pair_small : (k : ℕ) (p : PairTree) → pair_flaw k p ≡ None → IsSmallPair p
  pair_small k p e =
      let a = neither (over_if (nat_lt 65534 p.variable) Variable (k + 1)) (term_flaw InNode (k + 3) p.value) e in
      let h = at_most 65534 p.variable (not_over _ Variable (k + 1) a.0) in
      (omega arith, term_small InNode tt (k + 3) p.value a.1)

  reason_small : (k : ℕ) (r : Reason) → reason_flaw most hs k r ≡ None → IsSmallReason r
  reason_small k (Split t u) e =
      let a = neither (term_flaw InNode (k + 1) t) (term_flaw InNode (k + term_span t) u) e in
      (term_small InNode tt (k + 1) t a.0, term_small InNode tt (k + term_span t) u a.1)
  reason_small k (Cut places formula) e = outside_small most few hs (k + 3 + length places) formula e
  reason_small k (Instantiate v t) e =
      let a = neither (over_if (nat_lt 65534 v) Variable (k + 2)) (term_flaw InNode (k + 3) t) e in
      let h = at_most 65534 v (not_over _ Variable (k + 2) a.0) in
      (omega arith, term_small InNode tt (k + 3) t a.1)
  reason_small k (Link l) e = each_of (λ n. pair_flaw) pair_span IsSmallPair (λ n. pair_small) 0 (k + 3)
      l.substitution e
  reason_small k Absurd e = tt
  reason_small k (Rewrite i side) e = tt
  reason_small k (Distinct i j) e = tt
  reason_small k (Weaken i) e = tt
  reason_small k (Unfold i) e = tt
  reason_small k Done e = tt
  reason_small k (Choose j) e = tt
  reason_small k (PureRight i) e = tt
  reason_small k (Frame i j) e = tt
  reason_small k (UnfoldRight j c) e = tt
  reason_small k Exec e = tt
  reason_small k (Drop i) e = tt

  module _ (count : ℕ) where
    -- what a node without a flaw has no flaw in
    pub node_parts : (n k : ℕ) (x : Node) → node_flaw most hs count n k x ≡ None
        → (nat_le 20000 n ≡ false) × (judgement_flaw most hs count (k + 1) x.judgement ≡ None)
        × (reason_flaw most hs (k + 1 + judgement_span x.judgement) x.reason ≡ None)
    node_parts n k x e =
        let reason = reason_flaw most hs (k + 1 + judgement_span x.judgement) x.reason in
        let a = neither (over_if (nat_le 20000 n) Nodes k)
        (or_later (judgement_flaw most hs count (k + 1) x.judgement) reason) e in
        let b = neither (judgement_flaw most hs count (k + 1) x.judgement) reason a.1 in
        (not_over (nat_le 20000 n) Nodes k a.0, b.0, b.1)

    pub node_small : (n k : ℕ) (x : Node) → HasDisjunct x.judgement → node_flaw most hs count n k x ≡ None
        → IsSmallNode x
    node_small n k x some e =
        let parts = node_parts n k x e in (
          judgement_small count (k + 1) x.judgement some parts.1,
          reason_small (k + 1 + judgement_span x.judgement) x.reason parts.2,
        )

    nodes_small : (n k : ℕ) (nodes : List Node) → Each (λ (x : Node). HasDisjunct x.judgement) nodes
        → listed_flaw (node_flaw most hs count) node_span n k nodes ≡ None → Each IsSmallNode nodes
    nodes_small n k [] some e = tt
    nodes_small n k (x ∷ xs) some e =
        let both = neither (node_flaw most hs count n k x)
        (listed_flaw (node_flaw most hs count) node_span (suc n) (k + node_span x) xs) e in
        (node_small n k x some.0 both.0, nodes_small (suc n) (k + node_span x) xs some.1 both.1)

-- what a file without a flaw has no flaw in
pub file_parts : (f : File) → file_flaw f ≡ None → (listed_flaw
    (definition_flaw (limits f.version) (headings f.definitions)) definition_span 0 4 f.definitions ≡ None)
    × (program_flaw (limits f.version) (first_line f) f.lines ≡ None) × (file_ends_flaw f ≡ None)
    × (nodes_flaw f ≡ None)
file_parts f e =
    let definitions = listed_flaw (definition_flaw (limits f.version) (headings f.definitions))
    definition_span 0 4 f.definitions in
    let program = program_flaw (limits f.version) (first_line f) f.lines in
    let a = neither definitions (or_later program (or_later (file_ends_flaw f) (nodes_flaw f))) e in
    let b = neither program (or_later (file_ends_flaw f) (nodes_flaw f)) a.1 in
    let c = neither (file_ends_flaw f) (nodes_flaw f) b.1 in
    (a.0, b.0, c.0, c.1)

-- a file without a flaw is small
pub file_small : (f : File) → Each EndHasDisjunct f.ends → Each (λ (x : Node). HasDisjunct x.judgement) f.nodes
    → file_flaw f ≡ None → IsSmallFile f
file_small f some_ends some e =
    let ds = f.definitions in
    let hs = headings ds in
    let most = limits f.version in
    let few = most_fits f.version in
    let count = length f.lines in
    let parts = file_parts f e in
    let small = definitions_small most few hs 4 ds parts.0 in
    record {
      definitions = small.0;
      few = small.1;
      ends = ends_small (term_flaw InEnd) term_span term_value (term_small InEnd tt) most few hs (stops_at f.lines) 0
          (first_end f) f.ends some_ends parts.2;
      nodes = nodes_small most few hs count 0 (first_node f) f.nodes some parts.3;
      nodes_few = few_all (node_flaw most hs count) node_span 20000
          (λ n k x h. below 20000 n (node_parts most few hs count n k x h).0) (first_node f) f.nodes parts.3;
    }

pub few_heads : (heads : List Heading) (f : File) → heads ≡ headings f.definitions → length f.definitions ≤ 4096
    → length heads ≤ 4096
few_heads heads f known few = omega (arith, few, ap length known, length-map f.definitions heading)
