-- What a tree without a flaw says is written as that tree.
use Rattle.std.proofs.Common.{◌≡◌, ℕ, ◌+◌, List, length, map, None, refl}
use Rattle.std.specs.Prelude.{◌||◌, nat_eq, nat_lt}
use Rattle.cyc_basics.specs.Limits.{AreLimits}
use Rattle.cyc_basics.specs.declared.limits.Limits.{Limits}
use Rattle.cyc_lex.specs.declared.fault.IllFault.TheVariants.{NoLine}
use Rattle.cyc_lex.specs.declared.fault.What.TheVariants.{Disjuncts}
use Rattle.heap_formula.specs.Definitions.{Definition as DefinitionValue}
use Rattle.proof_syntax.specs.declared.tree.SideTree.{SideTree}
use Rattle.proof_syntax.specs.declared.tree.SideTree.TheVariants.{Left, Right}
use Rattle.proof_syntax.specs.declared.tree.PairTree.{PairTree}
use Rattle.proof_syntax.specs.Trees.{Judgement, Entails, From, Reason, Absurd, Rewrite, Split, Distinct, Weaken}
use Rattle.proof_syntax.specs.Trees.{Unfold, Cut, Done, Choose, PureRight, Instantiate, Frame, UnfoldRight, Exec, Drop}
use Rattle.proof_syntax.specs.Trees.{Link, Node, File}
use Rattle.heap_syntax.specs.Versions.{limits}
use Rattle.heap_reader.specs.Trees.{Heading}
use Rattle.heap_reader.specs.Spans.{heap_span}
use Rattle.heap_reader.specs.Flaws.{ill_if, arity_in, use_flaw, heap_flaw, heaps_flaw}
use Rattle.heap_reader.specs.Values.{place_of}
use Rattle.heap_reader.specs.EndValues.{ended_value}
use Rattle.heap_reader.proofs.Fitting.{most_fits}
use Rattle.heap_reader.proofs.NoFlaw.{neither}
use Rattle.heap_reader.specs.declared.definitions.scope.Scope.TheVariants.{Outside as InNode}
use Rattle.heap_reader.proofs.TreesAgain.{listed_again, term_again, found_name, heap_again, heaps_again}
use Rattle.heap_reader.proofs.TreesAgain.{definition_again}
use Rattle.proof_file.specs.Spans.{term_span, definition_span, judgement_span, node_span}
use Rattle.proof_file.specs.Flaws.{headings, term_flaw, definition_flaw, judgement_flaw, reason_flaw}
use Rattle.proof_file.specs.Flaws.{node_flaw, first_line, first_end, first_node, file_flaw}
use Rattle.proof_file.specs.Values.{term_value, definition_value, judgement_value, side_value, pair_value, reason_value}
use Rattle.proof_file.specs.Values.{node_value}
use Rattle.proof_file.proofs.Fitting.{node_parts, file_parts}
use Rattle.proof_file.proofs.LinesAgain.{program_lines_again, program_ends_again}
use Rattle.proof_file.specs.Written.{name_of, definition_tree, judgement_tree}
use Rattle.proof_file.specs.Written.{side_tree, pair_tree, reason_tree, node_tree, tree_of}
use Rattle.cyc_basics.proofs.Parts.{map_back}

-- ---- nodes

module _ (most : Limits) (few : AreLimits most) (hs : List Heading) (vs : List DefinitionValue)
    (named : (name : List ℕ) (n k : ℕ) → use_flaw (arity_in hs name) n k ≡ None → name_of vs (place_of hs name) ≡ name)
  where
    judgement_again : (count k : ℕ) (j : Judgement) → judgement_flaw most hs count k j ≡ None
        → judgement_tree vs (judgement_value hs j) ≡ j
    judgement_again count k (Entails j) e =
        let both = neither (heap_flaw (term_flaw InNode) term_span most hs k j.antecedent)
        (heaps_flaw (term_flaw InNode) term_span most hs Disjuncts (k + heap_span term_span j.antecedent) j.disjuncts)
        e in
        let antecedent = heap_again most hs vs named InNode k j.antecedent both.0 in
        let disjuncts = heaps_again most hs vs named InNode Disjuncts (k + heap_span term_span j.antecedent)
        j.disjuncts both.1 in
        λ i. Entails (record { antecedent = antecedent i; disjuncts = disjuncts i })
    judgement_again count k (From n h) e =
        let state = heap_again most hs vs named InNode (k + 3) h
        (neither (ill_if (nat_eq n 0 || nat_lt count n) NoLine (k + 1))
        (heap_flaw (term_flaw InNode) term_span most hs (k + 3) h) e).1 in
        λ i. From n (state i)

    side_again : (s : SideTree) → side_tree (side_value s) ≡ s
    side_again Left = refl
    side_again Right = refl

    pair_again : (p : PairTree) → pair_tree (pair_value p) ≡ p
    pair_again p = λ i. record { variable = p.variable; value = term_again p.value i }

    reason_again : (k : ℕ) (r : Reason) → reason_flaw most hs k r ≡ None → reason_tree vs (reason_value hs r) ≡ r
    reason_again k Absurd e = refl
    reason_again k (Rewrite n s) e = λ i. Rewrite n (side_again s i)
    reason_again k (Split t u) e = λ i. Split (term_again t i) (term_again u i)
    reason_again k (Distinct m n) e = refl
    reason_again k (Weaken n) e = refl
    reason_again k (Unfold n) e = refl
    reason_again k (Cut places formula) e =
        let same = heap_again most hs vs named InNode (k + 3 + length places) formula e in
        λ i. Cut places (same i)
    reason_again k Done e = refl
    reason_again k (Choose n) e = refl
    reason_again k (PureRight n) e = refl
    reason_again k (Instantiate v t) e = λ i. Instantiate v (term_again t i)
    reason_again k (Frame m n) e = refl
    reason_again k (UnfoldRight m n) e = refl
    reason_again k Exec e = refl
    reason_again k (Drop n) e = refl
    reason_again k (Link l) e =
        let pairs = map_back pair_value pair_tree pair_again l.substitution in
        λ i. Link (record { target = l.target; substitution = pairs i; mapped = l.mapped; disjuncts = l.disjuncts })

    node_again : (count n k : ℕ) (x : Node) → node_flaw most hs count n k x ≡ None → node_tree vs (node_value hs x) ≡ x
    node_again count n k x e =
        let parts = node_parts most few hs count n k x e in
        let judgement = judgement_again count (k + 1) x.judgement parts.1 in
        let reason = reason_again (k + 1 + judgement_span x.judgement) x.reason parts.2 in
        λ i. record { judgement = judgement i; reason = reason i; premises = x.premises }

-- the values of a tree without a flaw have that tree
pub tree_again : (f : File) → file_flaw f ≡ None → tree_of f.version
    (map (definition_value (headings f.definitions)) f.definitions)
    (ended_value term_value (headings f.definitions) f.lines f.ends)
    (map (node_value (headings f.definitions)) f.nodes) ≡ f
tree_again f e =
    let ds = f.definitions in
    let hs = headings ds in
    let vs = map (definition_value hs) ds in
    let count = length f.lines in
    let most = limits f.version in
    let few = most_fits f.version in
    let parts = file_parts f e in
    let definitions = listed_again (definition_flaw most hs) definition_span (definition_value hs) (definition_tree vs)
    (definition_again most hs vs (found_name hs ds)) 0 4 ds parts.0 in
    let lines = program_lines_again most hs vs (found_name hs ds) f.lines f.ends (first_end f) parts.2 (first_line f)
    parts.1 in
    let ends = program_ends_again most hs vs (found_name hs ds) f.lines f.ends (first_end f) parts.2 in
    let nodes = listed_again (node_flaw most hs count) node_span (node_value hs) (node_tree vs)
    (node_again most few hs vs (found_name hs ds) count) 0 (first_node f) f.nodes parts.3 in
    λ i. record {
      version = f.version;
      definitions = definitions i;
      lines = lines i;
      ends = ends i;
      nodes = nodes i;
    }
