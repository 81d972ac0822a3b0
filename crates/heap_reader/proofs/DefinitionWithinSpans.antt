-- A flaw stands at a token of its part.
use Rattle.std.proofs.Common.{ℕ, ◌+◌, ◌≤◌, List, take, arith}
use Rattle.std.specs.Prelude.{nat_lt, nat_le, is_some}
use Rattle.cyc_basics.specs.declared.limits.Limits.{Limits}
use Rattle.cyc_lex.specs.declared.fault.What.TheVariants.{Arguments, Cases, Predicates, Variable, Locals}
use Rattle.cyc_lex.specs.declared.fault.What.TheVariants.{ProgramVariables}
use Rattle.cyc_lex.specs.declared.fault.IllFault.TheVariants.{Parameter, Duplicate}
use Rattle.heap_syntax.specs.declared.definitions.tree.TermTree.{TermTree}
use Rattle.heap_syntax.specs.declared.definitions.tree.TermTree.TheVariants.{Nil, Univ, Exist}
use Rattle.heap_syntax.specs.DefinitionTrees.{Heap, Definition}
use Rattle.heap_reader.specs.Trees.{Heading}
use Rattle.heap_reader.specs.Spans.{total, heap_span}
use Rattle.heap_reader.specs.Flaws.{ill_if, over_if, or_later, arity_in, heap_flaw, heaps_flaw}
use Rattle.heap_reader.proofs.WithinSpans.{Before, first_before, over_before, ill_before, later, heap_before}
use Rattle.heap_reader.proofs.WithinSpans.{heaps_before}
use Rattle.heap_reader.specs.declared.definitions.scope.Scope.{Scope}
use Rattle.heap_reader.specs.declared.definitions.scope.Scope.TheVariants.{Outside, End as InEnd, Case as InCase}
use Rattle.heap_reader.specs.DefinitionSpans.{term_span, definition_span}
use Rattle.heap_reader.specs.DefinitionFlaws.{term_flaw, head_flaw, definition_flaw}

pub term_before : (scope : Scope) (k : ℕ) (t : TermTree) → Before (term_flaw scope k t) (k + term_span t)
term_before scope k Nil = tt
term_before Outside k (Univ n) = over_before (nat_lt 65534 n) Variable (k + 1) (k + 3) (omega arith)
term_before Outside k (Exist n) = over_before (nat_lt 65534 n) Variable (k + 1) (k + 3) (omega arith)
term_before InEnd k (Univ n) = over_before (nat_lt 63 n) ProgramVariables (k + 1) (k + 3) (omega arith)
term_before InEnd k (Exist n) = over_before (nat_lt 65534 n) Variable (k + 1) (k + 3) (omega arith)
term_before (InCase arity locals) k (Univ n) = ill_before (nat_le arity n) Parameter (k + 1) (k + 3) (omega arith)
term_before (InCase arity locals) k (Exist n) = over_before (nat_le locals n) Locals (k + 1) (k + 3) (omega arith)

pub some_span : (t : TermTree) → 2 ≤ term_span t
some_span Nil = omega arith
some_span (Univ n) = omega arith
some_span (Exist n) = omega arith

pub outside_before : (most : Limits) (hs : List Heading) (k : ℕ) (h : Heap)
    → Before (heap_flaw (term_flaw Outside) term_span most hs k h) (k + heap_span term_span h)
outside_before most hs k h = heap_before (term_flaw Outside) term_span some_span (term_before Outside) most hs k h

module _ (most : Limits) (hs : List Heading) where
  pub definition_before : (n k : ℕ) (d : Definition) → Before (definition_flaw most hs n k d) (k + definition_span d)
  definition_before n k d =
      let m = k + definition_span d in
      let taken = is_some (arity_in (take n hs) d.name) in
      let cases = heaps_flaw (term_flaw (InCase d.arity most.locals)) term_span most hs Cases (k + 6) d.cases in
      first_before (head_flaw most hs n k d) cases m (first_before (over_if (nat_le 4096 n) Predicates k)
      (or_later (ill_if taken Duplicate (k + 1)) (over_if (nat_lt most.arguments d.arity) Arguments (k + 3))) m
      (over_before (nat_le 4096 n) Predicates k m (omega arith))
      (first_before (ill_if taken Duplicate (k + 1)) (over_if (nat_lt most.arguments d.arity) Arguments (k + 3)) m
      (ill_before taken Duplicate (k + 1) m (omega arith))
      (over_before (nat_lt most.arguments d.arity) Arguments (k + 3) m (omega arith))))
      (later cases (k + 6 + total (heap_span term_span) d.cases) m (omega arith)
      (heaps_before (term_flaw (InCase d.arity most.locals)) term_span some_span
      (term_before (InCase d.arity most.locals)) most hs Cases
      (k + 6) d.cases))
