-- A flaw of an end stands at a token of its part.
use Rattle.std.proofs.Common.{ℕ, ◌+◌, ◌≤◌, Bool, List, [], ◌∷◌, arith}
use Rattle.std.specs.Prelude.{nat_le, not}
use Rattle.cyc_basics.specs.declared.limits.Limits.{Limits}
use Rattle.cyc_lex.specs.declared.fault.IllFault.TheVariants.{NoLine, Numbering}
use Rattle.cyc_lex.specs.declared.fault.What.TheVariants.{Disjuncts}
use Rattle.heap_syntax.specs.EndTrees.{End}
use Rattle.heap_reader.specs.Trees.{Heading}
use Rattle.heap_reader.specs.Spans.{total, heap_span}
use Rattle.heap_reader.specs.EndSpans.{end_span}
use Rattle.heap_reader.specs.Flaws.{Found, ill_if, heaps_flaw}
use Rattle.heap_reader.specs.EndFlaws.{end_head_flaw, end_flaw, ends_flaw}
use Rattle.heap_reader.proofs.WithinSpans.{Before, first_before, ill_before, later, heaps_before}

module _ {T : Type 0} (flaw : ℕ → T → Found) (span : T → ℕ) (some_span : (t : T) → 2 ≤ span t)
    (term_before : (k : ℕ) (t : T) → Before (flaw k t) (k + span t)) (most : Limits) (hs : List Heading)
    (stops : ℕ → Bool) where
  end_before : (before k : ℕ) (e : End T)
      → Before (end_flaw flaw span most hs stops before k e) (k + end_span span e)
  end_before before k e =
      let m = k + end_span span e in
      let none = not (stops e.number) in
      let low = nat_le e.number before in
      let heaps = heaps_flaw flaw span most hs Disjuncts (k + 3) e.disjuncts in
      first_before (end_head_flaw stops before k e.number) heaps m
      (first_before (ill_if none NoLine (k + 1)) (ill_if low Numbering (k + 1)) m
      (ill_before none NoLine (k + 1) m (omega arith)) (ill_before low Numbering (k + 1) m (omega arith)))
      (later heaps (k + 3 + total (heap_span span) e.disjuncts) m (omega arith)
      (heaps_before flaw span some_span term_before most hs Disjuncts (k + 3) e.disjuncts))

  pub ends_before : (before k : ℕ) (es : List (End T))
      → Before (ends_flaw flaw span most hs stops before k es) (k + total (end_span span) es)
  ends_before before k [] = tt
  ends_before before k (e ∷ es) =
      let m = k + total (end_span span) (e ∷ es) in
      let first = end_flaw flaw span most hs stops before k e in
      let rest = ends_flaw flaw span most hs stops e.number (k + end_span span e) es in
      first_before first rest m (later first (k + end_span span e) m (omega arith) (end_before before k e))
      (later rest (k + end_span span e + total (end_span span) es) m (omega arith)
      (ends_before e.number (k + end_span span e) es))
