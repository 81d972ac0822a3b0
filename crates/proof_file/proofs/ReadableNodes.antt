-- What the grammar lets through has universal variables alone where it must.
use Rattle.std.proofs.Common.{◌≡◌, ℕ, suc, ◌+◌, Bool, true, false, ◌&&◌, List, [], ◌∷◌, map, length, None, refl}
use Rattle.std.proofs.Common.{arith}
use Rattle.std.specs.List.{list_all}
use Rattle.std.specs.Prelude.{◌||◌, nat_eq, nat_lt, nat_le}
use Rattle.std.proofs.lemmas.Bool.{le-leb, lt-ltb, ltb-false, and_parts, and_from as both_true}
use Rattle.std.proofs.lemmas.List.{length-map}
use Rattle.cyc_basics.specs.Limits.{AreLimits}
use Rattle.cyc_basics.specs.declared.limits.Limits.{Limits}
use Rattle.cyc_basics.specs.declared.limits.TheConstants.{MOST_CASES}
use Rattle.heap_formula.specs.declared.terms.Term.{Term}
use Rattle.heap_formula.specs.declared.commands.Command.{Command}
use Rattle.heap_formula.specs.Words.{Each}
use Rattle.heap_formula.specs.Judgements.{antecedent}
use Rattle.rule_table.specs.Tests.{is_universal, are_universal, is_universal_pure, is_universal_spatial}
use Rattle.rule_table.specs.Tests.{is_universal_heap}
use Rattle.heap_syntax.specs.Grammar as shared
use Rattle.heap_syntax.specs.declared.lines.tree.OperandTree.{OperandTree}
use Rattle.heap_syntax.specs.declared.lines.tree.OperandTree.TheVariants as operands
use Rattle.heap_syntax.specs.declared.lines.tree.ChangeTree.TheVariants as changes
use Rattle.heap_syntax.specs.declared.lines.tree.CommandTree.{CommandTree}
use Rattle.heap_syntax.specs.declared.lines.tree.CommandTree.TheVariants.{Stop, Goto, Free, IfAny, If, StoreAtNil}
use Rattle.heap_syntax.specs.declared.lines.tree.CommandTree.TheVariants.{Change}
use Rattle.cyc_lex.specs.declared.fault.IllFault.TheVariants.{NoLine}
use Rattle.heap_syntax.specs.declared.definitions.tree.TermTree.{TermTree}
use Rattle.heap_syntax.specs.declared.definitions.tree.TermTree.TheVariants.{Nil, Univ, Exist}
use Rattle.proof_syntax.specs.declared.tree.PairTree.{PairTree}
use Rattle.proof_syntax.specs.Trees.{PureTree, Spatial, Cell, Predicate, Heap, Line, Definition, Judgement, Entails}
use Rattle.proof_syntax.specs.Trees.{From, LinkData, Reason, Absurd, Rewrite, Split, Distinct, Weaken, Unfold, Cut}
use Rattle.proof_syntax.specs.Trees.{Done, Choose, PureRight, Instantiate, Frame, UnfoldRight, Exec, Drop, Link, Node}
use Rattle.proof_syntax.specs.Trees.{File}
use Rattle.proof_syntax.specs.Grammar.{uterm, terms, pure, pures, spatial, heap, entailment, state, judgement, pair}
use Rattle.proof_syntax.specs.Grammar.{pairs1, pairs, link, parts, split, instantiate, reason, node, nodes, more_nodes}
use Rattle.proof_syntax.specs.Grammar.{body, file, some_pure, some_pair, comma, colon, closing}
use Rattle.heap_syntax.specs.Versions.{limits}
use Rattle.heap_reader.specs.Trees.{Heading}
use Rattle.heap_reader.specs.Flaws.{ill_if, listed_flaw, heap_flaw}
use Rattle.heap_reader.specs.Values.{pure_value, spatial_value, heap_value}
use Rattle.heap_reader.specs.LineValues.{operand_value, command_value, variable_value, program_value}
use Rattle.heap_reader.specs.EndValues.{LineEnd, line_with_end, with_ends_behind, with_ends}
use Rattle.heap_reader.proofs.EndLoops.{chosen}
use Rattle.heap_reader.proofs.Fitting.{most_fits}
use Rattle.heap_reader.proofs.NoFlaw.{neither, not_ill, positive}
use Rattle.proof_file.proofs.Fitting.{node_parts, file_parts}
use Rattle.heap_reader.specs.declared.definitions.scope.Scope.TheVariants.{Outside as InNode}
use Rattle.proof_file.specs.Spans.{term_span, node_span}
use Rattle.proof_file.specs.Flaws.{headings, term_flaw, judgement_flaw, node_flaw, first_node, file_flaw}
use Rattle.proof_file.specs.Values.{term_value, definition_value, judgement_value, pair_value, reason_value, node_value}
use Rattle.proof_file.specs.Readable.{is_universal_reason, is_readable, are_readable, is_universal_command}
use Rattle.proof_file.specs.Readable.{are_universal_commands, is_at_line, are_at_lines, has_few_cases}
use Rattle.proof_file.specs.Readable.{all_have_few_cases}
use Rattle.proof_file.specs.Small.{IsSmallDefinition}
use Rattle.heap_reader.proofs.DefinitionMembers.{list_fit, listed_fit, spatials_fit}
use Rattle.heap_reader.proofs.Members.{many_fit}

-- ---- members

all_pass : {X Y : Type 0} (p : Y → Bool) (value : X → Y) (Q : X → Type 0) → ((x : X) → Q x → p (value x) ≡ true)
    → (xs : List X) → Each Q xs → list_all p (map value xs) ≡ true
all_pass p value Q one [] e = refl
all_pass p value Q one (x ∷ xs) e =
    both_true (p (value x)) (list_all p (map value xs)) (one x e.0) (all_pass p value Q one xs e.1)

-- ---- terms and atoms

universal_term : (t : TermTree) → uterm.fits t → is_universal (term_value t) ≡ true
unfolding uterm
universal_term Nil f = refl
universal_term (Univ n) f = refl
universal_term (Exist n) f = absurd f.0

terms_fit : (t : TermTree) → (terms true).fits t → is_universal (term_value t) ≡ true
unfolding terms
terms_fit t f = universal_term t f

universal_terms : (ts : List TermTree) → Each (terms true).fits ts → are_universal (map term_value ts) ≡ true
universal_terms [] e = refl
universal_terms (t ∷ ts) e =
    both_true (is_universal (term_value t)) (are_universal (map term_value ts)) (terms_fit t e.0)
    (universal_terms ts e.1)

universal_pure : (x : PureTree) → (pure (terms true)).fits x → is_universal_pure (pure_value term_value x) ≡ true
unfolding shared.pure
universal_pure x f =
    by_sign x.is_equation (both_true (is_universal (term_value x.left)) (is_universal (term_value x.right))
    (terms_fit x.left f.1.0) (terms_fit x.right f.1.1.1))
  where
    by_sign : (b : Bool) → is_universal (term_value x.left) && is_universal (term_value x.right) ≡ true
        → is_universal_pure (pure_value term_value (record x { is_equation = b })) ≡ true
    by_sign true e = e
    by_sign false e = e

universal_spatial : (hs : List Heading) (x : Spatial) → (spatial (terms true)).fits x
    → is_universal_spatial (spatial_value term_value hs x) ≡ true
unfolding shared.spatial shared.cell shared.predicate shared.fields shared.arguments
universal_spatial hs (Cell t ts) f =
    both_true (is_universal (term_value t)) (are_universal (map term_value ts)) (terms_fit t f.1.0)
    (universal_terms ts (listed_fit Nil comma closing (terms true) ts f.1.1))
universal_spatial hs (Predicate name []) f = refl
universal_spatial hs (Predicate name (t ∷ ts)) f = universal_terms (t ∷ ts)
    (listed_fit Nil comma closing (terms true) (t ∷ ts) f.1.1.1)

pures_fit : (xs : List PureTree) → (pures (terms true)).fits xs → Each (pure (terms true)).fits xs
unfolding shared.pures shared.pures1
pures_fit [] f = tt
pures_fit (x ∷ xs) f = listed_fit some_pure comma colon (pure (terms true)) (x ∷ xs) f.1

universal_heap : (hs : List Heading) (h : Heap) → (heap (terms true)).fits h
    → is_universal_heap (heap_value term_value hs h) ≡ true
unfolding shared.heap
universal_heap hs h f =
    both_true (list_all is_universal_pure (map (pure_value term_value) h.pure))
    (list_all is_universal_spatial (map (spatial_value term_value hs) h.spatial))
    (all_pass is_universal_pure (pure_value term_value) (pure (terms true)).fits universal_pure h.pure
    (pures_fit h.pure f.1.0)) (all_pass is_universal_spatial (spatial_value term_value hs)
    (spatial (terms true)).fits (universal_spatial hs) h.spatial (spatials_fit true h.spatial f.1.1))

-- ---- reasons and nodes

universal_pair : (p : PairTree) → pair.fits p → is_universal (pair_value p).1 ≡ true
unfolding pair
universal_pair p f = universal_term p.value f.1.1

pairs_fit : (ps : List PairTree) → pairs.fits ps → Each pair.fits ps
unfolding pairs pairs1
pairs_fit [] f = tt
pairs_fit (p ∷ ps) f = list_fit some_pair comma pair (p ∷ ps) f.1

link_pairs : (l : LinkData) → link.fits l → Each pair.fits l.substitution
unfolding link
link_pairs l f = pairs_fit l.substitution f.1.1.0

universal_reason : (hs : List Heading) (r : Reason) → reason.fits r → is_universal_reason (reason_value hs r) ≡ true
unfolding reason parts split instantiate
universal_reason hs (Split t u) f =
    both_true (is_universal (term_value t)) (is_universal (term_value u)) (universal_term t f.1.1.0)
    (universal_term u f.1.1.1)
universal_reason hs (Instantiate v t) f = universal_term t f.1.1.1
universal_reason hs (Link l) f =
    all_pass (λ (p : ℕ × Term). is_universal p.1) pair_value pair.fits universal_pair l.substitution
    (link_pairs l f.1.1)
universal_reason hs Absurd f = refl
universal_reason hs (Rewrite k s) f = refl
universal_reason hs (Distinct i j) f = refl
universal_reason hs (Weaken k) f = refl
universal_reason hs (Unfold k) f = refl
universal_reason hs (Cut places formula) f = refl
universal_reason hs Done f = refl
universal_reason hs (Choose j) f = refl
universal_reason hs (PureRight k) f = refl
universal_reason hs (Frame i j) f = refl
universal_reason hs (UnfoldRight j c) f = refl
universal_reason hs Exec f = refl
universal_reason hs (Drop k) f = refl

universal_antecedent : (hs : List Heading) (j : Judgement) → judgement.fits j
    → is_universal_heap (antecedent (judgement_value hs j)) ≡ true
unfolding judgement entailment state
universal_antecedent hs (Entails e) f = universal_heap hs e.antecedent f.1.1.0
universal_antecedent hs (From n h) f = universal_heap hs h f.1.1

readable_node : (hs : List Heading) (n : Node) → node.fits n → is_readable (node_value hs n) ≡ true
unfolding node
readable_node hs n f =
    both_true (is_universal_heap (antecedent (judgement_value hs n.judgement)))
    (is_universal_reason (reason_value hs n.reason)) (universal_antecedent hs n.judgement f.1.0)
    (universal_reason hs n.reason f.1.1.0)

pub nodes_fit : (ns : List Node) → nodes.fits ns → Each node.fits ns
unfolding nodes more_nodes
nodes_fit [] f = tt
nodes_fit (n ∷ ns) f = (f.1.0, many_fit node ns f.1.1)

pub nodes_readable : (f : File) → file.fits f → are_readable (map (node_value (headings f.definitions)) f.nodes) ≡ true
unfolding file body
nodes_readable f fit =
    all_pass is_readable (node_value (headings f.definitions)) node.fits (readable_node (headings f.definitions))
    f.nodes (nodes_fit f.nodes fit.1.1.1.1.1)

pub cases_few : (ds : List Definition) (hs : List Heading) → Each IsSmallDefinition ds
    → all_have_few_cases (map (definition_value hs) ds) ≡ true
cases_few ds hs small =
    all_pass has_few_cases (definition_value hs) IsSmallDefinition
    (λ d s. let l = length-map d.cases (heap_value term_value hs) in let few = s.few in
    le-leb (length (map (heap_value term_value hs) d.cases)) MOST_CASES (omega (arith, l, few))) ds small

-- ---- commands

universal_operand : (t : OperandTree ℕ) → is_universal (operand_value variable_value t) ≡ true
universal_operand operands.Nil = refl
universal_operand (operands.Variable n) = refl

universal_both : (t u : OperandTree ℕ) → is_universal (operand_value variable_value t) && is_universal
    (operand_value variable_value u) ≡ true
universal_both t u =
    both_true (is_universal (operand_value variable_value t)) (is_universal (operand_value variable_value u))
    (universal_operand t) (universal_operand u)

universal_command : (c : CommandTree ℕ) → is_universal_command (command_value variable_value c) ≡ true
universal_command Stop = refl
universal_command (IfAny n) = refl
universal_command (Goto n) = refl
universal_command (Free t) = universal_operand t
universal_command (If t true u n) = universal_both t u
universal_command (If t false u n) = universal_both t u
universal_command (StoreAtNil n t) = universal_operand t
universal_command (Change v (changes.New n)) = refl
universal_command (Change v (changes.Assign t)) = universal_operand t
universal_command (Change v (changes.Load t n)) = universal_operand t
universal_command (Change v (changes.Store n t)) = universal_operand t

lines_universal : (ls : List Line) → are_universal_commands (program_value ls) ≡ true
lines_universal [] = refl
lines_universal (l ∷ ls) =
    both_true (is_universal_command (command_value variable_value l.command))
    (are_universal_commands (program_value ls)) (universal_command l.command) (lines_universal ls)

universal_line : (i : ℕ) (c : Command) (es : List LineEnd) → is_universal_command c ≡ true
    → is_universal_command (line_with_end i c es).0 ≡ true
universal_line i c [] u = u
universal_line i c (e ∷ es) u = by_number (nat_eq e.0 i)
  where
    by_number : (b : Bool) → is_universal_command (chosen b c e es).0 ≡ true
    by_number true = refl
    by_number false = u

ended_universal : (n : ℕ) (cs : List Command) (es : List LineEnd) → are_universal_commands cs ≡ true
    → are_universal_commands (with_ends_behind n cs es) ≡ true
ended_universal n [] es u = refl
ended_universal n (c ∷ cs) es u =
    let both = and_parts (is_universal_command c) (are_universal_commands cs) u in
    both_true (is_universal_command (line_with_end (n + 1) c es).0)
    (are_universal_commands (with_ends_behind (n + 1) cs (line_with_end (n + 1) c es).1))
    (universal_line (n + 1) c es both.0)
    (ended_universal (n + 1) cs (line_with_end (n + 1) c es).1 both.1)

pub commands_universal : (ls : List Line) (es : List LineEnd)
    → are_universal_commands (with_ends (program_value ls) es) ≡ true
commands_universal ls es = ended_universal 0 (program_value ls) es (lines_universal ls)

-- ---- judgements that start from a line

line_there : (count n : ℕ) → nat_eq n 0 || nat_lt count n ≡ false → nat_lt 0 n && nat_le n count ≡ true
line_there count n e =
    by_tests (nat_eq n 0) (nat_lt count n) refl refl e
  where
    by_tests : (none out : Bool) → nat_eq n 0 ≡ none → nat_lt count n ≡ out → none || out ≡ false
        → nat_lt 0 n && nat_le n count ≡ true
    by_tests true out z o e = absurd cc
    by_tests false true z o e = absurd cc
    by_tests false false z o e =
        let some = positive n z in
        let within = ltb-false count n o in
        both_true (nat_lt 0 n) (nat_le n count) (lt-ltb 0 n (omega arith)) (le-leb n count within)

judgement_at_line : (most : Limits) (hs : List Heading) (count k : ℕ) (j : Judgement)
    → judgement_flaw most hs count k j ≡ None → is_at_line count (judgement_value hs j) ≡ true
judgement_at_line most hs count k (Entails j) e = refl
judgement_at_line most hs count k (From n h) e =
    let out = nat_eq n 0 || nat_lt count n in
    line_there count n (not_ill out NoLine (k + 1) (neither (ill_if out NoLine (k + 1))
    (heap_flaw (term_flaw InNode) term_span most hs (k + 3) h) e).0)

nodes_at_lines : (most : Limits) → AreLimits most → (hs : List Heading) (count n k : ℕ) (xs : List Node)
    → listed_flaw (node_flaw most hs count) node_span n k xs ≡ None → are_at_lines count (map (node_value hs) xs) ≡ true
nodes_at_lines most few hs count n k [] e = refl
nodes_at_lines most few hs count n k (x ∷ xs) e =
    let both = neither (node_flaw most hs count n k x)
    (listed_flaw (node_flaw most hs count) node_span (suc n) (k + node_span x) xs) e in
    let first = judgement_at_line most hs count (k + 1) x.judgement (node_parts most few hs count n k x both.0).1 in
    both_true (is_at_line count (judgement_value hs x.judgement)) (are_at_lines count (map (node_value hs) xs)) first
    (nodes_at_lines most few hs count (suc n) (k + node_span x) xs both.1)

pub file_at_lines : (f : File) → file_flaw f ≡ None
    → are_at_lines (length f.lines) (map (node_value (headings f.definitions)) f.nodes) ≡ true
file_at_lines f e = nodes_at_lines (limits f.version) (most_fits f.version) (headings f.definitions)
    (length f.lines) 0 (first_node f) f.nodes (file_parts f e).3
