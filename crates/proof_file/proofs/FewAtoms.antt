-- Each judgement of a file is within its version's limits.
use Rattle.std.proofs.Common.{◌≡◌, ℕ, ◌+◌, true, List, [], ◌∷◌, length, map, None, Some, refl, arith}
use Rattle.std.specs.Prelude.{◌||◌, nat_eq, nat_lt, nat_le, slice_get}
use Rattle.std.proofs.lemmas.Bool.{le-leb, and_from as both_true}
use Rattle.std.proofs.lemmas.List.{length-map}
use Rattle.std.specs.List.{list_all}
use Rattle.cyc_basics.specs.declared.limits.Limits.{Limits}
use Rattle.heap_formula.specs.declared.judgements.Judgement.{Judgement as JudgementValue}
use Rattle.heap_formula.specs.declared.judgements.Judgement.TheVariants.{Entail, Term as Halting}
use Rattle.heap_formula.specs.Definitions.{Definition as DefinitionValue}
use Rattle.heap_formula.specs.Symbolic.{SymbolicHeap}
use Rattle.heap_formula.specs.Words.{Each}
use Rattle.rule_table.specs.Answer.{heaps_of, is_short}
use Rattle.cyc_lex.specs.declared.fault.IllFault.TheVariants.{NoLine}
use Rattle.cyc_lex.specs.declared.fault.What.TheVariants.{Disjuncts}
use Rattle.heap_syntax.specs.Versions.{limits}
use Rattle.heap_reader.specs.Trees.{Heading}
use Rattle.heap_reader.specs.Spans.{heap_span}
use Rattle.heap_reader.specs.Flaws.{ill_if, heap_flaw, heaps_flaw}
use Rattle.heap_reader.proofs.NoFlaw.{neither}
use Rattle.heap_reader.proofs.Fitting.{HasFewAtoms, most_fits, heap_few, heaps_few}
use Rattle.proof_file.specs.declared.file.ProofFile.{ProofFile}
use Rattle.proof_file.specs.FileNodes.{FileNode}
use Rattle.heap_reader.specs.declared.definitions.scope.Scope.TheVariants.{Outside as InNode}
use Rattle.proof_file.specs.Spans.{term_span, node_span}
use Rattle.proof_file.specs.Flaws.{headings, term_flaw, judgement_flaw, node_flaw, first_node}
use Rattle.proof_file.specs.Written.{pure_tree, spatial_tree, heap_tree, judgement_tree, node_tree, tree_of}
use Rattle.proof_file.proofs.Fitting.{node_parts, file_parts}
use Rattle.cyc_basics.proofs.Places.{get_map}
use Rattle.heap_reader.proofs.FirstPlaces.{flaw_at}

heaps_are_few : (most : Limits) (ds : List DefinitionValue) (bs : List SymbolicHeap)
    → Each (HasFewAtoms most) (map (heap_tree ds) bs) → list_all (is_short most) bs ≡ true
heaps_are_few most ds [] e = refl
heaps_are_few most ds (b ∷ bs) e =
    let few = e.0 in
    let pures = length-map b.pure pure_tree in
    let spatials = length-map b.spatial (spatial_tree ds) in
    both_true (is_short most b) (list_all (is_short most) bs)
    (both_true (nat_le (length b.pure) most.pure) (nat_le (length b.spatial) most.spatial)
    (le-leb (length b.pure) most.pure (omega (arith, few.0, pures)))
    (le-leb (length b.spatial) most.spatial (omega (arith, few.1, spatials)))) (heaps_are_few most ds bs e.1)

judgement_is_few : (most : Limits) (ds : List DefinitionValue) (hs : List Heading) (count k : ℕ) (j : JudgementValue)
    → judgement_flaw most hs count k (judgement_tree ds j) ≡ None
    → list_all (is_short most) (heaps_of j) ≡ true
judgement_is_few most ds hs count k (Entail a bs) e =
    let p = k + heap_span term_span (heap_tree ds a) in
    let both = neither (heap_flaw (term_flaw InNode) term_span most hs k (heap_tree ds a))
    (heaps_flaw (term_flaw InNode) term_span most hs Disjuncts p (map (heap_tree ds) bs)) e in
    heaps_are_few most ds (a ∷ bs) (
      heap_few (term_flaw InNode) term_span most hs k (heap_tree ds a) both.0,
      heaps_few (term_flaw InNode) term_span most hs Disjuncts p (map (heap_tree ds) bs) both.1,
    )
judgement_is_few most ds hs count k (Halting n a) e =
    let both = neither (ill_if (nat_eq n 0 || nat_lt count n) NoLine (k + 1))
    (heap_flaw (term_flaw InNode) term_span most hs (k + 3) (heap_tree ds a)) e in
    heaps_are_few most ds (a ∷ []) (heap_few (term_flaw InNode) term_span most hs (k + 3) (heap_tree ds a) both.1, tt)

-- the heaps of a node's judgement are within the limits of the file's version
pub node_is_few : (f : ProofFile) (v : ℕ) (n : FileNode) → slice_get f.nodes v ≡ Some n
    → list_all (is_short (limits f.version)) (heaps_of n.judgement) ≡ true
node_is_few f v n at =
    let ds = f.defs.list in
    let most = limits f.version in
    let tree = tree_of f.version ds f.program f.nodes in
    let hs = headings tree.definitions in
    let count = length tree.lines in
    let there = get_map (node_tree ds) f.nodes v n at in
    let found = flaw_at (node_flaw most hs count) node_span 0 (first_node tree) tree.nodes v (node_tree ds n) there
    (file_parts tree f.flawless).3 in
    judgement_is_few most ds hs count (found.0 + 1) n.judgement
    (node_parts most (most_fits f.version) hs count (0 + v) found.0 (node_tree ds n) found.1).1
