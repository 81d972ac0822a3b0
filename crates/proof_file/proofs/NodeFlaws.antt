-- The first flaw of what is kept of a node is the first flaw of the node, and without a flaw all is kept.
use Rattle.std.proofs.Common.{◌≡◌, ℕ, ◌+◌, ◌≤◌, List, length, Some, None, refl, ap, ◌∙◌}
use Rattle.std.specs.Prelude.{◌||◌, nat_eq, nat_lt, nat_le}
use Rattle.cyc_basics.specs.declared.limits.Limits.{Limits}
use Rattle.cyc_lex.specs.declared.fault.IllFault.TheVariants.{NoLine}
use Rattle.cyc_lex.specs.declared.fault.What.TheVariants.{Disjuncts, Nodes}
use Rattle.heap_syntax.specs.declared.keep.Keep.TheVariants.{Beyond}
use Rattle.proof_syntax.specs.Keeping.{heap_front, heaps_front, entailment_front, judgement_front, reason_front}
use Rattle.proof_syntax.specs.Keeping.{node_front}
use Rattle.proof_syntax.specs.Trees.{Heap, Entailment, Judgement, Entails, From, Reason, Absurd, Rewrite, Split}
use Rattle.proof_syntax.specs.Trees.{Distinct, Weaken, Unfold, Cut, Done, Choose, PureRight, Instantiate, Frame}
use Rattle.proof_syntax.specs.Trees.{UnfoldRight, Exec, Drop, Link, Node}
use Rattle.heap_reader.specs.Trees.{Heading}
use Rattle.heap_reader.specs.Spans.{heap_span}
use Rattle.heap_reader.specs.Flaws.{Found, ill_if, over_if, or_later, heap_flaw, heaps_flaw}
use Rattle.heap_reader.proofs.NoFlaw.{neither}
use Rattle.heap_reader.proofs.FlawFronts.{front_flaw, front_whole, fronts_flaw, fronts_whole}
use Rattle.heap_reader.specs.declared.definitions.scope.Scope.TheVariants.{Outside as InNode}
use Rattle.proof_file.specs.Flaws.{term_flaw, entailment_flaw, judgement_flaw, reason_flaw, node_flaw}
use Rattle.proof_file.specs.Spans.{term_span, judgement_span}

module _ (most : Limits) (m : ℕ) (pures_within : most.pure ≤ m) (spatials_within : most.spatial ≤ m)
    (heaps_within : 16 ≤ m)
    (hs : List Heading) where
  abbrev heap_found : ℕ → Heap → Found
  heap_found k h = heap_flaw (term_flaw InNode) term_span most hs k h

  abbrev heaps_found : ℕ → List Heap → Found
  heaps_found k ds = heaps_flaw (term_flaw InNode) term_span most hs Disjuncts k ds

  heap_same : (k : ℕ) (h : Heap) → heap_found k (heap_front (Beyond m) h) ≡ heap_found k h
  heap_same = front_flaw (term_flaw InNode) term_span most hs m pures_within spatials_within

  heap_whole : (k : ℕ) (h : Heap) → heap_found k h ≡ None → heap_front (Beyond m) h ≡ h
  heap_whole = front_whole (term_flaw InNode) term_span most hs m pures_within spatials_within

  heaps_same : (k : ℕ) (ds : List Heap) → heaps_found k (heaps_front (Beyond m) ds) ≡ heaps_found k ds
  heaps_same = fronts_flaw (term_flaw InNode) term_span most hs m pures_within spatials_within Disjuncts heaps_within

  heaps_whole : (k : ℕ) (ds : List Heap) → heaps_found k ds ≡ None → heaps_front (Beyond m) ds ≡ ds
  heaps_whole = fronts_whole (term_flaw InNode) term_span most hs m pures_within spatials_within Disjuncts heaps_within

  entailment_same : (k : ℕ) (e : Entailment) → entailment_flaw most hs k (entailment_front (Beyond m) e)
      ≡ entailment_flaw most hs k e
  entailment_same k e = by (heap_found k e.antecedent) refl
    where
      by : (o : Found) → heap_found k e.antecedent ≡ o
          → entailment_flaw most hs k (entailment_front (Beyond m) e) ≡ entailment_flaw most hs k e
      by (Some f) h = rw (heap_same k e.antecedent, h) refl
      by None h =
          ap (λ (x : Heap). or_later (heap_found k x)
          (heaps_found (k + heap_span term_span x) (heaps_front (Beyond m) e.disjuncts)))
          (heap_whole k e.antecedent h)
          ∙ ap (λ o. or_later (heap_found k e.antecedent) o)
          (heaps_same (k + heap_span term_span e.antecedent) e.disjuncts)

  entailment_whole : (k : ℕ) (e : Entailment) → entailment_flaw most hs k e ≡ None → entailment_front (Beyond m) e ≡ e
  entailment_whole k e h =
      let both = neither (heap_found k e.antecedent) (heaps_found (k + heap_span term_span e.antecedent) e.disjuncts) h
      in
      λ i. record {
        antecedent = heap_whole k e.antecedent both.0 i;
        disjuncts = heaps_whole (k + heap_span term_span e.antecedent) e.disjuncts both.1 i;
      }

  judgement_same : (count k : ℕ) (j : Judgement) → judgement_flaw most hs count k (judgement_front (Beyond m) j)
      ≡ judgement_flaw most hs count k j
  judgement_same count k (Entails e) = entailment_same k e
  judgement_same count k (From n h) = ap (λ o. or_later (ill_if (nat_eq n 0 || nat_lt count n) NoLine (k + 1)) o)
      (heap_same (k + 3) h)

  judgement_whole : (count k : ℕ) (j : Judgement) → judgement_flaw most hs count k j ≡ None
      → judgement_front (Beyond m) j ≡ j
  judgement_whole count k (Entails e) h = ap (λ (x : Entailment). Entails x) (entailment_whole k e h)
  judgement_whole count k (From n h) e = ap (λ (x : Heap). From n x)
      (heap_whole (k + 3) h (neither (ill_if (nat_eq n 0 || nat_lt count n) NoLine (k + 1)) (heap_found (k + 3) h) e).1)

  reason_same : (k : ℕ) (r : Reason) → reason_flaw most hs k (reason_front (Beyond m) r) ≡ reason_flaw most hs k r
  reason_same k Absurd = refl
  reason_same k (Rewrite i s) = refl
  reason_same k (Split t u) = refl
  reason_same k (Distinct i j) = refl
  reason_same k (Weaken i) = refl
  reason_same k (Unfold i) = refl
  reason_same k (Cut places formula) = heap_same (k + 3 + length places) formula
  reason_same k Done = refl
  reason_same k (Choose j) = refl
  reason_same k (PureRight i) = refl
  reason_same k (Instantiate v t) = refl
  reason_same k (Frame i j) = refl
  reason_same k (UnfoldRight j c) = refl
  reason_same k Exec = refl
  reason_same k (Drop i) = refl
  reason_same k (Link l) = refl

  reason_whole : (k : ℕ) (r : Reason) → reason_flaw most hs k r ≡ None → reason_front (Beyond m) r ≡ r
  reason_whole k Absurd e = refl
  reason_whole k (Rewrite i s) e = refl
  reason_whole k (Split t u) e = refl
  reason_whole k (Distinct i j) e = refl
  reason_whole k (Weaken i) e = refl
  reason_whole k (Unfold i) e = refl
  reason_whole k (Cut places formula) e = ap (λ (x : Heap). Cut places x) (heap_whole (k + 3 + length places) formula e)
  reason_whole k Done e = refl
  reason_whole k (Choose j) e = refl
  reason_whole k (PureRight i) e = refl
  reason_whole k (Instantiate v t) e = refl
  reason_whole k (Frame i j) e = refl
  reason_whole k (UnfoldRight j c) e = refl
  reason_whole k Exec e = refl
  reason_whole k (Drop i) e = refl
  reason_whole k (Link l) e = refl

  abbrev judgement_found : ℕ → ℕ → Node → Found
  judgement_found count k x = judgement_flaw most hs count (k + 1) x.judgement

  abbrev reason_found : ℕ → Node → Found
  reason_found k x = reason_flaw most hs (k + 1 + judgement_span x.judgement) x.reason

  pub node_same : (count n k : ℕ) (x : Node) → node_flaw most hs count n k (node_front (Beyond m) x)
      ≡ node_flaw most hs count n k x
  node_same count n k x = ap (λ o. or_later (over_if (nat_le 20000 n) Nodes k) o) (by (judgement_found count k x) refl)
    where
      by : (o : Found) → judgement_found count k x ≡ o
          → or_later (judgement_found count k (node_front (Beyond m) x)) (reason_found k (node_front (Beyond m) x))
          ≡ or_later (judgement_found count k x) (reason_found k x)
      by (Some f) e = rw (judgement_same count (k + 1) x.judgement, e) refl
      by None e =
          ap (λ (j : Judgement). or_later (judgement_flaw most hs count (k + 1) j)
          (reason_flaw most hs (k + 1 + judgement_span j) (reason_front (Beyond m) x.reason)))
          (judgement_whole count (k + 1) x.judgement e)
          ∙ ap (λ o. or_later (judgement_found count k x) o) (reason_same (k + 1 + judgement_span x.judgement) x.reason)

  pub node_whole : (count n k : ℕ) (x : Node) → node_flaw most hs count n k x ≡ None → node_front (Beyond m) x ≡ x
  node_whole count n k x e =
      let rest = neither (over_if (nat_le 20000 n) Nodes k) (or_later (judgement_found count k x) (reason_found k x)) e
      in
      let both = neither (judgement_found count k x) (reason_found k x) rest.1 in
      λ i. record {
        judgement = judgement_whole count (k + 1) x.judgement both.0 i;
        reason = reason_whole (k + 1 + judgement_span x.judgement) x.reason both.1 i;
        premises = x.premises;
      }
