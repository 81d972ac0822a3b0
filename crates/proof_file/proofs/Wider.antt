-- A file without a flaw has none as a file of the upgraded version.
use Rattle.std.proofs.Common.{◌≡◌, ℕ, ◌+◌, ◌≤◌, Bool, true, false, ◌⊎◌, inl, inr, List, [], ◌∷◌, length, take, None}
use Rattle.std.proofs.Common.{refl, ap, arith}
use Rattle.std.specs.Prelude.{◌||◌, nat_eq, nat_lt, nat_le, is_some}
use Rattle.std.proofs.lemmas.Bool.{le-ltb}
use Rattle.cyc_basics.specs.Limits.{AreWithin}
use Rattle.cyc_basics.specs.declared.limits.Limits.{Limits}
use Rattle.heap_formula.specs.declared.commands.Command.{Command}
use Rattle.heap_formula.specs.Definitions.{Definition as DefinitionValue}
use Rattle.cyc_lex.specs.declared.fault.IllFault.TheVariants.{Duplicate, NoLine}
use Rattle.cyc_lex.specs.declared.fault.What.TheVariants.{Arguments, Cases, Disjuncts, Locals, Nodes, Predicates}
use Rattle.heap_syntax.specs.declared.version.Version.{Version}
use Rattle.heap_syntax.specs.declared.version.Version.TheVariants.{One, Two, Three}
use Rattle.heap_syntax.specs.Versions.{limits}
use Rattle.heap_syntax.specs.declared.definitions.tree.TermTree.{TermTree}
use Rattle.heap_syntax.specs.declared.definitions.tree.TermTree.TheVariants.{Nil, Univ, Exist}
use Rattle.heap_syntax.specs.declared.lines.tree.CommandTree.{CommandTree}
use Rattle.heap_syntax.specs.declared.lines.tree.CommandTree.TheVariants.{Stop, Goto, Free, IfAny, If, StoreAtNil}
use Rattle.heap_syntax.specs.declared.lines.tree.CommandTree.TheVariants.{Change}
use Rattle.heap_syntax.specs.LineGrammar as commands
use Rattle.heap_syntax.specs.EndGrammar as grammar
use Rattle.heap_syntax.specs.NumberedEnds.{End, ends}
use Rattle.proof_syntax.specs.Trees.{Heap, Line, Definition, Judgement, Entails, From, Reason, Absurd, Rewrite, Split}
use Rattle.proof_syntax.specs.Trees.{Distinct, Weaken, Unfold, Cut, Done, Choose, PureRight, Instantiate, Frame}
use Rattle.proof_syntax.specs.Trees.{UnfoldRight, Exec, Drop, Link, Node}
use Rattle.proof_syntax.specs.Grammar.{variable, lines, body, file}
use Rattle.heap_reader.specs.Trees.{Heading}
use Rattle.heap_reader.specs.Spans.{heap_span}
use Rattle.heap_reader.specs.Flaws.{ill_if, over_if, or_later, listed_flaw, arity_in, heap_flaw, heaps_flaw}
use Rattle.heap_reader.proofs.NoFlaw.{neither, none_later, not_over, at_most}
use Rattle.heap_reader.proofs.Wider.{listed_wider, over_wider, heap_wider, heaps_wider}
use Rattle.heap_reader.proofs.LineWider.{lines_allowed}
use Rattle.heap_reader.proofs.EndWider.{ends_wider}
use Rattle.heap_reader.specs.EndFlaws.{stops_at}
use Rattle.proof_file.specs.FileNodes.{FileNode}
use Rattle.heap_reader.specs.declared.definitions.scope.Scope.TheVariants.{Outside as InNode, End as InEnd}
use Rattle.heap_reader.specs.declared.definitions.scope.Scope.TheVariants.{Case as InCase}
use Rattle.proof_file.specs.Spans.{term_span, variable_span, definition_span, judgement_span, node_span}
use Rattle.proof_file.specs.Flaws.{headings, term_flaw, variable_flaw, program_flaw, head_flaw, definition_flaw}
use Rattle.proof_file.specs.Flaws.{judgement_flaw, reason_flaw, node_flaw, program_ends_flaw, first_line, first_end}
use Rattle.proof_file.specs.Flaws.{first_node, file_flaw}
use Rattle.proof_file.specs.Upgrades.{upgraded}
use Rattle.proof_file.specs.Written.{lines_tree, ends_tree, tree_of}
use Rattle.proof_file.proofs.Fitting.{file_parts}

-- ---- more is allowed

-- so many parameters are within a greater limit too
parameters_wider : (least most : ℕ) → least ≤ most → (n k : ℕ) → over_if (nat_lt least n) Arguments k ≡ None
    → over_if (nat_lt most n) Arguments k ≡ None
parameters_wider least most le n k e =
    let few = at_most least n (not_over _ Arguments k e) in
    ap (λ b. over_if b Arguments k) (le-ltb most n (omega (arith, few, le)))

module _ (most more : Limits) (within : AreWithin most more) where
  case_term_wider : (arity k : ℕ) (t : TermTree) → term_flaw (InCase arity most.locals) k t ≡ None
      → term_flaw (InCase arity more.locals) k t ≡ None
  case_term_wider arity k Nil e = e
  case_term_wider arity k (Univ n) e = e
  case_term_wider arity k (Exist n) e = over_wider most.locals more.locals within.locals Locals n (k + 1) e

  same_term : (k : ℕ) (t : TermTree) → term_flaw InNode k t ≡ None → term_flaw InNode k t ≡ None
  same_term k t e = e

  module _ (hs : List Heading) where
    head_wider : (n k : ℕ) (d : Definition) → head_flaw most hs n k d ≡ None → head_flaw more hs n k d ≡ None
    head_wider n k d e =
        let many = over_if (nat_le 4096 n) Predicates k in
        let twice = ill_if (is_some (arity_in (take n hs) d.name)) Duplicate (k + 1) in
        let wide = over_if (nat_lt more.arguments d.arity) Arguments (k + 3) in
        let a = neither many (or_later twice (over_if (nat_lt most.arguments d.arity) Arguments (k + 3))) e in
        let b = neither twice (over_if (nat_lt most.arguments d.arity) Arguments (k + 3)) a.1 in
        none_later many (or_later twice wide) a.0 (none_later twice wide b.0
        (parameters_wider most.arguments more.arguments within.arguments d.arity (k + 3) b.1))

    definition_wider : (n k : ℕ) (d : Definition) → definition_flaw most hs n k d ≡ None
        → definition_flaw more hs n k d ≡ None
    definition_wider n k d e =
        let narrow = term_flaw (InCase d.arity most.locals) in
        let wide = term_flaw (InCase d.arity more.locals) in
        let both = neither (head_flaw most hs n k d) (heaps_flaw narrow term_span most hs Cases (k + 6) d.cases) e in
        none_later (head_flaw more hs n k d) (heaps_flaw wide term_span more hs Cases (k + 6) d.cases)
        (head_wider n k d both.0)
        (heaps_wider narrow wide (case_term_wider d.arity) term_span most more within hs Cases (k + 6) d.cases both.1)

    state_wider : (k : ℕ) (h : Heap) → heap_flaw (term_flaw InNode) term_span most hs k h ≡ None
        → heap_flaw (term_flaw InNode) term_span more hs k h ≡ None
    state_wider = heap_wider (term_flaw InNode) (term_flaw InNode) same_term term_span most more within hs

    judgement_wider : (count k : ℕ) (j : Judgement) → judgement_flaw most hs count k j ≡ None
        → judgement_flaw more hs count k j ≡ None
    judgement_wider count k (Entails j) e =
        let p = k + heap_span term_span j.antecedent in
        let both = neither (heap_flaw (term_flaw InNode) term_span most hs k j.antecedent)
        (heaps_flaw (term_flaw InNode) term_span most hs Disjuncts p j.disjuncts) e in
        none_later (heap_flaw (term_flaw InNode) term_span more hs k j.antecedent)
        (heaps_flaw (term_flaw InNode) term_span more hs Disjuncts p j.disjuncts) (state_wider k j.antecedent both.0)
        (heaps_wider (term_flaw InNode) (term_flaw InNode) same_term term_span most more within hs Disjuncts p
        j.disjuncts both.1)
    judgement_wider count k (From n h) e =
        let out = ill_if (nat_eq n 0 || nat_lt count n) NoLine (k + 1) in
        let both = neither out (heap_flaw (term_flaw InNode) term_span most hs (k + 3) h) e in
        none_later out (heap_flaw (term_flaw InNode) term_span more hs (k + 3) h) both.0 (state_wider (k + 3) h both.1)

    reason_wider : (k : ℕ) (r : Reason) → reason_flaw most hs k r ≡ None → reason_flaw more hs k r ≡ None
    reason_wider k (Cut places formula) e = state_wider (k + 3 + length places) formula e
    reason_wider k (Split t u) e = e
    reason_wider k (Instantiate v t) e = e
    reason_wider k (Link l) e = e
    reason_wider k Absurd e = refl
    reason_wider k (Rewrite i side) e = refl
    reason_wider k (Distinct i j) e = refl
    reason_wider k (Weaken i) e = refl
    reason_wider k (Unfold i) e = refl
    reason_wider k Done e = refl
    reason_wider k (Choose j) e = refl
    reason_wider k (PureRight i) e = refl
    reason_wider k (Frame i j) e = refl
    reason_wider k (UnfoldRight j c) e = refl
    reason_wider k Exec e = refl
    reason_wider k (Drop i) e = refl

    node_wider : (count n k : ℕ) (x : Node) → node_flaw most hs count n k x ≡ None
        → node_flaw more hs count n k x ≡ None
    node_wider count n k x e =
        let p = k + 1 + judgement_span x.judgement in
        let over = over_if (nat_le 20000 n) Nodes k in
        let first = neither over (or_later (judgement_flaw most hs count (k + 1) x.judgement)
        (reason_flaw most hs p x.reason)) e in
        let both = neither (judgement_flaw most hs count (k + 1) x.judgement) (reason_flaw most hs p x.reason) first.1
        in
        none_later over (or_later (judgement_flaw more hs count (k + 1) x.judgement) (reason_flaw more hs p x.reason))
        first.0 (none_later (judgement_flaw more hs count (k + 1) x.judgement) (reason_flaw more hs p x.reason)
        (judgement_wider count (k + 1) x.judgement both.0) (reason_wider p x.reason both.1))

-- the upgraded version allows no less
pub allows_more : (version : Version) → AreWithin (limits version) (limits (upgraded version))
allows_more One =
    record {
      arguments = omega arith;
      cases = omega arith;
      locals = omega arith;
      pure = omega arith;
      spatial = omega arith;
      cells = omega arith;
    }
allows_more Two =
    record {
      arguments = omega arith;
      cases = omega arith;
      locals = omega arith;
      pure = omega arith;
      spatial = omega arith;
      cells = omega arith;
    }
allows_more Three =
    record {
      arguments = omega arith;
      cases = omega arith;
      locals = omega arith;
      pure = omega arith;
      spatial = omega arith;
      cells = omega arith;
    }

pub file_wider : (version : Version) (ds : List DefinitionValue) (cs : List Command) (ns : List FileNode)
    → file_flaw (tree_of version ds cs ns) ≡ None → file_flaw (tree_of (upgraded version) ds cs ns) ≡ None
file_wider version ds cs ns e =
    let tree = tree_of version ds cs ns in
    let hs = headings tree.definitions in
    let count = length tree.lines in
    let most = limits version in
    let more = limits (upgraded version) in
    let within = allows_more version in
    let parts = file_parts tree e in
    let definitions = listed_flaw (definition_flaw more hs) definition_span 0 4 tree.definitions in
    let program = program_flaw more (first_line tree) tree.lines in
    let ends = program_ends_flaw more hs tree.lines (first_end tree) tree.ends in
    let nodes = listed_flaw (node_flaw more hs count) node_span 0 (first_node tree) tree.nodes in
    none_later definitions (or_later program (or_later ends nodes))
    (listed_wider (definition_flaw most hs) (definition_flaw more hs) definition_span
    (definition_wider most more within hs) 0 4 tree.definitions parts.0)
    (none_later program (or_later ends nodes)
    (lines_allowed variable_flaw variable_span most more within (first_line tree) tree.lines parts.1)
    (none_later ends nodes (ends_wider (term_flaw InEnd) (term_flaw InEnd) (λ k t e. e) term_span most more within hs
    (stops_at tree.lines) 0 (first_end tree) tree.ends parts.2)
    (listed_wider (node_flaw most hs count) (node_flaw more hs count) node_span
    (node_wider most more within hs count) 0 (first_node tree) tree.nodes parts.3)))

-- the grammar takes the same as a file of the upgraded version
behind_if_wider : (free : Bool) (x : ℕ ⊎ commands.Branch ℕ) → (commands.behind_if free variable).fits x
    → (commands.behind_if true variable).fits x
unfolding commands.behind_if
behind_if_wider true x f = f
behind_if_wider false (inl n) f = absurd f.0
behind_if_wider false (inr p) f = f.1

command_wider : (version : Version) (c : CommandTree ℕ) → (commands.command version variable).fits c
    → (commands.command Two variable).fits c
unfolding commands.command
command_wider version Stop f = f
command_wider version (Goto n) f = f
command_wider version (Free t) f = f
command_wider version (IfAny n) f = (tt, behind_if_wider (commands.has_free_branches version) (inl n) f.1)
command_wider version (If t b u n) f = (
  tt,
  behind_if_wider (commands.has_free_branches version) (inr (t, (b, (u, n))))
      f.1,
)
command_wider version (StoreAtNil n t) f = f
command_wider version (Change v c) f = f

lines_as_two : (version : Version) (ls : List Line) → (lines version).fits ls → (lines Two).fits ls
unfolding commands.lines commands.line
lines_as_two version [] f = tt
lines_as_two version (l ∷ ls) f =
    ((tt, (f.0.1.0, command_wider version l.command f.0.1.1)), lines_as_two version ls f.1)

lines_wider : (version : Version) (ls : List Line) → (lines version).fits ls → (lines (upgraded version)).fits ls
lines_wider One ls f = lines_as_two One ls f
lines_wider Two ls f = f
lines_wider Three ls f = f

-- where the upgraded version has ends, the version has them
ends_fit_wider : (version : Version) (es : List End) → (ends version).fits es → (ends (upgraded version)).fits es
unfolding grammar.ends
ends_fit_wider One es f = f
ends_fit_wider Two es f = f
ends_fit_wider Three es f = f

pub fits_wider : (version : Version) (ds : List DefinitionValue) (cs : List Command) (ns : List FileNode)
    → file.fits (tree_of version ds cs ns) → file.fits (tree_of (upgraded version) ds cs ns)
unfolding file body
fits_wider version ds cs ns e =
    let f = e.1.1 in (
      tt,
      (
        tt,
        (
          f.0,
          (
            lines_wider version (lines_tree cs) f.1.0,
            (
              ends_fit_wider version (ends_tree ds cs) f.1.1.0,
              f.1.1.1,
            ),
          ),
        ),
      ),
    )
