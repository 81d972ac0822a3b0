-- A flaw of a node stands at a token of it or after it, not before.
use Rattle.std.proofs.Common.{ℕ, suc, ◌+◌, ◌≤◌, Bool, true, false, List, [], ◌∷◌, length, Option, Some, None, arith}
use Rattle.std.specs.Prelude.{◌||◌, not, nat_eq, nat_lt, nat_le}
use Rattle.cyc_basics.specs.declared.limits.Limits.{Limits}
use Rattle.cyc_lex.specs.declared.fault.IllFault.{IllFault}
use Rattle.cyc_lex.specs.declared.fault.IllFault.TheVariants.{NoLine, Arity}
use Rattle.cyc_lex.specs.declared.fault.What.{What}
use Rattle.cyc_lex.specs.declared.fault.What.TheVariants.{Arguments, Pure, Spatial as SpatialAtoms, Disjuncts, Nodes}
use Rattle.cyc_lex.specs.declared.fault.What.TheVariants.{Variable}
use Rattle.heap_syntax.specs.declared.tree.PureTree.{PureTree}
use Rattle.heap_syntax.specs.Trees.{Spatial, Cell, Predicate, Heap}
use Rattle.heap_reader.specs.Trees.{Heading}
use Rattle.heap_reader.specs.Spans.{pure_span, pures_span, spatial_span, heap_span}
use Rattle.heap_reader.specs.Flaws.{Found, ill_if, over_if, or_later, listed_flaw, argument_flaw, arguments_flaw}
use Rattle.heap_reader.specs.Flaws.{pure_flaw, arity_in, use_flaw, spatial_flaw, heap_flaw, counted_flaw, heaps_flaw}
use Rattle.heap_syntax.specs.declared.definitions.tree.TermTree.{TermTree}
use Rattle.heap_syntax.specs.declared.definitions.tree.TermTree.TheVariants.{Nil, Univ, Exist}
use Rattle.heap_reader.specs.declared.definitions.scope.Scope.TheVariants.{Outside}
use Rattle.heap_reader.specs.DefinitionFlaws.{term_flaw}
use Rattle.proof_syntax.specs.declared.tree.PairTree.{PairTree}
use Rattle.proof_syntax.specs.Trees.{Judgement, Entails, From, Reason, Absurd, Rewrite, Split, Distinct, Weaken, Unfold}
use Rattle.proof_syntax.specs.Trees.{Cut, Done, Choose, PureRight, Instantiate, Frame, UnfoldRight, Exec, Drop, Link}
use Rattle.proof_syntax.specs.Trees.{Node}
use Rattle.proof_file.specs.Spans.{term_span, judgement_span, pair_span}
use Rattle.proof_file.specs.Flaws.{judgement_flaw, pair_flaw, reason_flaw, node_flaw}

-- each flaw stands at token lo or after it
abbrev pub After : Found → ℕ → Type 0
After None lo = Unit {0}
After (Some f) lo = lo ≤ f.token

or_after : (a b : Found) (lo : ℕ) → After a lo → After b lo → After (or_later a b) lo
or_after (Some f) b lo h k = h
or_after None b lo h k = k

over_after : (b : Bool) (what : What) (lo k : ℕ) → lo ≤ k → After (over_if b what k) lo
over_after true what lo k h = h
over_after false what lo k h = tt

ill_after : (b : Bool) (fault : IllFault) (lo k : ℕ) → lo ≤ k → After (ill_if b fault k) lo
ill_after true fault lo k h = h
ill_after false fault lo k h = tt

pub listed_after : {X : Type 0} (flaw : ℕ → ℕ → X → Found) (span : X → ℕ) (lo : ℕ)
    → ((n k : ℕ) (x : X) → lo ≤ k → After (flaw n k x) lo) → (n k : ℕ) (xs : List X) → lo ≤ k
    → After (listed_flaw flaw span n k xs) lo
listed_after flaw span lo one n k [] h = tt
listed_after flaw span lo one n k (x ∷ xs) h =
    or_after (flaw n k x) (listed_flaw flaw span (suc n) (k + span x) xs) lo (one n k x h)
    (listed_after flaw span lo one (suc n) (k + span x) xs (omega (arith, h)))

use_after : (o : Option ℕ) (n lo k : ℕ) → lo ≤ k → After (use_flaw o n k) lo
use_after None n lo k h = h
use_after (Some arity) n lo k h = ill_after (not (nat_eq n arity)) Arity lo k h

term_after : (lo k : ℕ) (t : TermTree) → lo ≤ k → After (term_flaw Outside k t) lo
term_after lo k Nil h = tt
term_after lo k (Univ n) h = over_after (nat_lt 65534 n) Variable lo (k + 1) (omega (arith, h))
term_after lo k (Exist n) h = over_after (nat_lt 65534 n) Variable lo (k + 1) (omega (arith, h))

module _ (most : Limits) where
  arguments_after : (lo k : ℕ) (ts : List TermTree) → lo ≤ k
      → After (arguments_flaw (term_flaw Outside) term_span most k ts) lo
  arguments_after lo k ts h = listed_after (argument_flaw (term_flaw Outside) term_span most) term_span lo one 0 k ts h
    where
      one : (n j : ℕ) (t : TermTree) → lo ≤ j → After (argument_flaw (term_flaw Outside) term_span most n j t) lo
      one n j t g = or_after (over_if (nat_le most.arguments n) Arguments j) (term_flaw Outside j t) lo
          (over_after (nat_le most.arguments n) Arguments lo j g) (term_after lo j t g)

  pure_after : (lo n k : ℕ) (x : PureTree TermTree) → lo ≤ k
      → After (pure_flaw (term_flaw Outside) term_span most n k x) lo
  pure_after lo n k x h =
      or_after (over_if (nat_le most.pure n) Pure k) (or_later (term_flaw Outside k x.left)
      (term_flaw Outside (k + term_span x.left) x.right)) lo (over_after (nat_le most.pure n) Pure lo k h)
      (or_after (term_flaw Outside k x.left) (term_flaw Outside (k + term_span x.left) x.right) lo
      (term_after lo k x.left h) (term_after lo (k + term_span x.left) x.right (omega (arith, h))))

  module _ (hs : List Heading) where
    spatial_after : (lo n k : ℕ) (x : Spatial TermTree) → lo ≤ k
        → After (spatial_flaw (term_flaw Outside) term_span most hs n k x) lo
    spatial_after lo n k (Cell t ts) h =
        or_after (over_if (nat_le most.spatial n) SpatialAtoms k)
        (or_later (term_flaw Outside k t) (arguments_flaw (term_flaw Outside) term_span most (k + term_span t + 1) ts))
        lo (over_after (nat_le most.spatial n) SpatialAtoms lo k h)
        (or_after (term_flaw Outside k t) (arguments_flaw (term_flaw Outside) term_span most (k + term_span t + 1) ts)
        lo (term_after lo k t h) (arguments_after lo (k + term_span t + 1) ts (omega (arith, h))))
    spatial_after lo n k (Predicate name ts) h =
        or_after (use_flaw (arity_in hs name) (length ts) k)
        (or_later (over_if (nat_le most.spatial n) SpatialAtoms k)
        (arguments_flaw (term_flaw Outside) term_span most (k + 2) ts)) lo
        (use_after (arity_in hs name) (length ts) lo k h)
        (or_after (over_if (nat_le most.spatial n) SpatialAtoms k)
        (arguments_flaw (term_flaw Outside) term_span most (k + 2) ts) lo
        (over_after (nat_le most.spatial n) SpatialAtoms lo k h) (arguments_after lo (k + 2) ts (omega (arith, h))))

    heap_after : (lo k : ℕ) (h : Heap TermTree) → lo ≤ k
        → After (heap_flaw (term_flaw Outside) term_span most hs k h) lo
    heap_after lo k h g =
        or_after (listed_flaw (pure_flaw (term_flaw Outside) term_span most) (pure_span term_span) 0 k h.pure)
        (listed_flaw (spatial_flaw (term_flaw Outside) term_span most hs) (spatial_span term_span) 0
        (k + pures_span term_span h.pure) h.spatial) lo
        (listed_after (pure_flaw (term_flaw Outside) term_span most) (pure_span term_span) lo (pure_after lo)
        0 k h.pure g)
        (listed_after (spatial_flaw (term_flaw Outside) term_span most hs) (spatial_span term_span) lo
        (spatial_after lo) 0 (k + pures_span term_span h.pure) h.spatial (omega (arith, g)))

    heaps_after : (lo k : ℕ) (xs : List (Heap TermTree)) → lo ≤ k
        → After (heaps_flaw (term_flaw Outside) term_span most hs Disjuncts k xs) lo
    heaps_after lo k xs g = listed_after (counted_flaw (term_flaw Outside) term_span most hs Disjuncts)
        (heap_span term_span) lo one 0 k xs g
      where
        one : (n j : ℕ) (x : Heap TermTree) → lo ≤ j
            → After (counted_flaw (term_flaw Outside) term_span most hs Disjuncts n j x) lo
        one n j x i = or_after (over_if (nat_le 16 n) Disjuncts j) (heap_flaw (term_flaw Outside) term_span most hs j x)
            lo (over_after (nat_le 16 n) Disjuncts lo j i) (heap_after lo j x i)

    judgement_after : (count lo k : ℕ) (j : Judgement) → lo ≤ k → After (judgement_flaw most hs count k j) lo
    judgement_after count lo k (Entails e) h =
        or_after (heap_flaw (term_flaw Outside) term_span most hs k e.antecedent)
        (heaps_flaw (term_flaw Outside) term_span most hs Disjuncts (k + heap_span term_span e.antecedent)
        e.disjuncts) lo (heap_after lo k e.antecedent h) (heaps_after lo (k + heap_span term_span e.antecedent)
        e.disjuncts (omega (arith, h)))
    judgement_after count lo k (From n x) h =
        or_after (ill_if (nat_eq n 0 || nat_lt count n) NoLine (k + 1))
        (heap_flaw (term_flaw Outside) term_span most hs (k + 3) x) lo
        (ill_after (nat_eq n 0 || nat_lt count n) NoLine lo (k + 1) (omega (arith, h)))
        (heap_after lo (k + 3) x (omega (arith, h)))

    pair_after : (lo n k : ℕ) (p : PairTree) → lo ≤ k → After (pair_flaw k p) lo
    pair_after lo n k p h =
        or_after (over_if (nat_lt 65534 p.variable) Variable (k + 1)) (term_flaw Outside (k + 3) p.value) lo
        (over_after (nat_lt 65534 p.variable) Variable lo (k + 1) (omega (arith, h)))
        (term_after lo (k + 3) p.value (omega (arith, h)))

    reason_after : (lo k : ℕ) (r : Reason) → lo ≤ k → After (reason_flaw most hs k r) lo
    reason_after lo k (Split t u) h =
        or_after (term_flaw Outside (k + 1) t) (term_flaw Outside (k + term_span t) u) lo
        (term_after lo (k + 1) t (omega (arith, h))) (term_after lo (k + term_span t) u (omega (arith, h)))
    reason_after lo k (Cut places formula) h = heap_after lo (k + 3 + length places) formula (omega (arith, h))
    reason_after lo k (Instantiate v t) h =
        or_after (over_if (nat_lt 65534 v) Variable (k + 2)) (term_flaw Outside (k + 3) t) lo
        (over_after (nat_lt 65534 v) Variable lo (k + 2) (omega (arith, h)))
        (term_after lo (k + 3) t (omega (arith, h)))
    reason_after lo k (Link l) h = listed_after (λ n. pair_flaw) pair_span lo (pair_after lo) 0 (k + 3) l.substitution
        (omega (arith, h))
    reason_after lo k Absurd h = tt
    reason_after lo k (Rewrite i s) h = tt
    reason_after lo k (Distinct i j) h = tt
    reason_after lo k (Weaken i) h = tt
    reason_after lo k (Unfold i) h = tt
    reason_after lo k Done h = tt
    reason_after lo k (Choose j) h = tt
    reason_after lo k (PureRight i) h = tt
    reason_after lo k (Frame i j) h = tt
    reason_after lo k (UnfoldRight j c) h = tt
    reason_after lo k Exec h = tt
    reason_after lo k (Drop i) h = tt

    pub node_after : (count n k : ℕ) (x : Node) → After (node_flaw most hs count n k x) k
    node_after count n k x =
        let p = k + 1 + judgement_span x.judgement in
        let judgement = judgement_flaw most hs count (k + 1) x.judgement in
        let reason = reason_flaw most hs p x.reason in
        or_after (over_if (nat_le 20000 n) Nodes k) (or_later judgement reason) k
        (over_after (nat_le 20000 n) Nodes k k (omega arith))
        (or_after judgement reason k (judgement_after count k (k + 1) x.judgement (omega arith))
        (reason_after k p x.reason (omega arith)))
