-- What is kept of nodes has no more tokens.
use Rattle.std.proofs.Common.{ℕ, ◌≤◌, arith}
use Rattle.heap_syntax.specs.declared.keep.Keep.TheVariants.{Beyond}
use Rattle.heap_reader.proofs.FrontSpans.{heap-span, heaps-span}
use Rattle.proof_syntax.specs.Keeping.{judgement_front, reason_front, node_front}
use Rattle.proof_syntax.specs.Trees.{Judgement, Entails, From, Reason, Absurd, Rewrite, Split, Distinct, Weaken, Unfold}
use Rattle.proof_syntax.specs.Trees.{Cut, Done, Choose, PureRight, Instantiate, Frame, UnfoldRight, Exec, Drop, Link}
use Rattle.proof_syntax.specs.Trees.{Node}
use Rattle.proof_file.specs.Spans.{term_span, judgement_span, reason_span, node_span}

module _ (m : ℕ) where
  judgement-span : (j : Judgement) → judgement_span (judgement_front (Beyond m) j) ≤ judgement_span j
  judgement-span (Entails e) = omega (arith, heap-span term_span m e.antecedent, heaps-span term_span m e.disjuncts)
  judgement-span (From n h) = omega (arith, heap-span term_span m h)

  reason-span : (r : Reason) → reason_span (reason_front (Beyond m) r) ≤ reason_span r
  reason-span Absurd = omega arith
  reason-span (Rewrite i s) = omega arith
  reason-span (Split t u) = omega arith
  reason-span (Distinct i j) = omega arith
  reason-span (Weaken i) = omega arith
  reason-span (Unfold i) = omega arith
  reason-span (Cut places formula) = omega (arith, heap-span term_span m formula)
  reason-span Done = omega arith
  reason-span (Choose j) = omega arith
  reason-span (PureRight i) = omega arith
  reason-span (Instantiate v t) = omega arith
  reason-span (Frame i j) = omega arith
  reason-span (UnfoldRight j c) = omega arith
  reason-span Exec = omega arith
  reason-span (Drop i) = omega arith
  reason-span (Link l) = omega arith

  pub node-span : (x : Node) → node_span (node_front (Beyond m) x) ≤ node_span x
  node-span x = omega (arith, judgement-span x.judgement, reason-span x.reason)
