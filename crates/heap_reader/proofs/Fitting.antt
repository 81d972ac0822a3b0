-- Heaps without a flaw fit the values' types.
use Rattle.std.proofs.Common.{◌≡◌, ℕ, ◌+◌, ◌<◌, ◌≤◌, List, length, None, arith}
use Rattle.std.specs.Prelude.{nat_le}
use Rattle.heap_formula.specs.declared.terms.Term.{Term}
use Rattle.heap_formula.specs.Words.{Each}
use Rattle.cyc_basics.specs.Limits.{AreLimits}
use Rattle.cyc_basics.specs.declared.limits.Limits.{Limits}
use Rattle.cyc_lex.specs.declared.fault.What.{What}
use Rattle.cyc_lex.specs.declared.fault.What.TheVariants.{Arguments, Pure, Spatial as SpatialAtoms}
use Rattle.heap_syntax.specs.declared.tree.PureTree.{PureTree}
use Rattle.heap_syntax.specs.declared.version.Version.{Version}
use Rattle.heap_syntax.specs.declared.version.Version.TheVariants.{One, Two, Three}
use Rattle.heap_syntax.specs.Versions.{limits}
use Rattle.heap_syntax.specs.Trees.{Spatial, Cell, Predicate, Heap}
use Rattle.heap_reader.specs.Trees.{Heading}
use Rattle.heap_reader.specs.Spans.{pure_span, pures_span, spatial_span, heap_span}
use Rattle.heap_reader.specs.Flaws.{Found, over_if, or_later, listed_flaw, argument_flaw, arguments_flaw, pure_flaw}
use Rattle.heap_reader.specs.Flaws.{arity_in, use_flaw, spatial_flaw, heap_flaw, heap_limit, counted_flaw, heaps_flaw}
use Rattle.heap_reader.specs.Small.{IsSmall, AreSmallTerms, IsSmallPure, IsSmallSpatial, IsSmallHeap}
use Rattle.heap_reader.proofs.NoFlaw.{neither, not_over, below, each_of, few_all}

pub most_fits : (version : Version) → AreLimits (limits version)
most_fits One =
    record {
      arguments = omega arith;
      cases = omega arith;
      locals = omega arith;
      pure = omega arith;
      spatial = omega arith;
      cells = omega arith;
    }
most_fits Two =
    record {
      arguments = omega arith;
      cases = omega arith;
      locals = omega arith;
      pure = omega arith;
      spatial = omega arith;
      cells = omega arith;
    }
most_fits Three =
    record {
      arguments = omega arith;
      cases = omega arith;
      locals = omega arith;
      pure = omega arith;
      spatial = omega arith;
      cells = omega arith;
    }

-- no more atoms than the version allows
abbrev pub HasFewAtoms : {T : Type 0} → Limits → Heap T → Type 0
HasFewAtoms most h = (length h.pure ≤ most.pure) × (length h.spatial ≤ most.spatial)

-- a heap without a flaw is within its limit
module _ {T : Type 0} (flaw : ℕ → T → Found) (span : T → ℕ) (most : Limits) (hs : List Heading) where
  pub pure_few : (n k : ℕ) (x : PureTree T) → pure_flaw flaw span most n k x ≡ None → n < most.pure
  pure_few n k x e = below most.pure n (not_over _ Pure k (neither (over_if (nat_le most.pure n) Pure k)
      (or_later (flaw k x.left) (flaw (k + span x.left) x.right)) e).0)

  pub spatial_few : (n k : ℕ) (x : Spatial T) → spatial_flaw flaw span most hs n k x ≡ None → n < most.spatial
  spatial_few n k (Cell t ts) e =
      below most.spatial n (not_over _ SpatialAtoms k (neither (over_if (nat_le most.spatial n) SpatialAtoms k)
      (or_later (flaw k t) (arguments_flaw flaw span most (k + span t + 1) ts)) e).0)
  spatial_few n k (Predicate name ts) e =
      let a = neither (use_flaw (arity_in hs name) (length ts) k)
      (or_later (over_if (nat_le most.spatial n) SpatialAtoms k) (arguments_flaw flaw span most (k + 2) ts)) e in
      below most.spatial n (not_over _ SpatialAtoms k (neither (over_if (nat_le most.spatial n) SpatialAtoms k)
      (arguments_flaw flaw span most (k + 2) ts) a.1).0)

  pub heap_few : (k : ℕ) (h : Heap T) → heap_flaw flaw span most hs k h ≡ None → HasFewAtoms most h
  heap_few k h e =
      let p = k + pures_span span h.pure in
      let a = neither (listed_flaw (pure_flaw flaw span most) (pure_span span) 0 k h.pure)
      (listed_flaw (spatial_flaw flaw span most hs) (spatial_span span) 0 p h.spatial) e in (
        few_all (pure_flaw flaw span most) (pure_span span) most.pure (λ n j x g. pure_few n j x g) k h.pure a.0,
        few_all (spatial_flaw flaw span most hs) (spatial_span span) most.spatial (λ n j x g. spatial_few n j x g) p
            h.spatial a.1,
      )

  pub heaps_few : (what : What) (k : ℕ) (heaps : List (Heap T)) → heaps_flaw flaw span most hs what k heaps ≡ None
      → Each (HasFewAtoms most) heaps
  heaps_few what k heaps e =
      each_of (counted_flaw flaw span most hs what) (heap_span span) (HasFewAtoms most)
      (λ n j h g. heap_few j h (neither (over_if (nat_le (heap_limit most what) n) what j)
      (heap_flaw flaw span most hs j h) g).1)
      0 k heaps e

module _ {T : Type 0} (flaw : ℕ → T → Found) (span : T → ℕ) (value : T → Term)
    (small : (k : ℕ) (t : T) → flaw k t ≡ None → IsSmall value t) (most : Limits) (few : AreLimits most) where
  arguments_few : (k : ℕ) (ts : List T) → arguments_flaw flaw span most k ts ≡ None → length ts ≤ most.arguments
  arguments_few k ts e = few_all (argument_flaw flaw span most) span most.arguments (λ n j t h. below most.arguments n
      (not_over _ Arguments j (neither (over_if (nat_le most.arguments n) Arguments j) (flaw j t) h).0)) k ts e

  arguments_small : (k : ℕ) (ts : List T) → arguments_flaw flaw span most k ts ≡ None → AreSmallTerms value ts
  arguments_small k ts e = (
    each_of (argument_flaw flaw span most) span (IsSmall value)
        (λ n j t h. small j t (neither (over_if (nat_le most.arguments n) Arguments j) (flaw j t) h).1) 0 k ts e,
    omega (arith, arguments_few k ts e, few.arguments),
  )

  pures_small : (k : ℕ) (xs : List (PureTree T)) → listed_flaw (pure_flaw flaw span most) (pure_span span) 0 k xs ≡ None
      → Each (IsSmallPure value) xs
  pures_small k xs e =
      each_of (pure_flaw flaw span most) (pure_span span) (IsSmallPure value) (λ n j x h.
      let both = neither (flaw j x.left) (flaw (j + span x.left) x.right)
      (neither (over_if (nat_le most.pure n) Pure j) (or_later (flaw j x.left) (flaw (j + span x.left) x.right)) h).1 in
      (small j x.left both.0, small (j + span x.left) x.right both.1)) 0 k xs e

  module _ (hs : List Heading) where
    spatial_small : (n k : ℕ) (x : Spatial T) → spatial_flaw flaw span most hs n k x ≡ None → IsSmallSpatial value x
    spatial_small n k (Cell t ts) e =
        let a = neither (over_if (nat_le most.spatial n) SpatialAtoms k)
        (or_later (flaw k t) (arguments_flaw flaw span most (k + span t + 1) ts)) e in
        let b = neither (flaw k t) (arguments_flaw flaw span most (k + span t + 1) ts) a.1 in
        (small k t b.0, arguments_small (k + span t + 1) ts b.1)
    spatial_small n k (Predicate name ts) e =
        let a = neither (use_flaw (arity_in hs name) (length ts) k)
        (or_later (over_if (nat_le most.spatial n) SpatialAtoms k) (arguments_flaw flaw span most (k + 2) ts)) e in
        let b = neither (over_if (nat_le most.spatial n) SpatialAtoms k) (arguments_flaw flaw span most (k + 2) ts) a.1
        in
        arguments_small (k + 2) ts b.1

    pub heap_small : (k : ℕ) (h : Heap T) → heap_flaw flaw span most hs k h ≡ None → IsSmallHeap value h
    heap_small k h e =
        let p = k + pures_span span h.pure in
        let a = neither (listed_flaw (pure_flaw flaw span most) (pure_span span) 0 k h.pure)
        (listed_flaw (spatial_flaw flaw span most hs) (spatial_span span) 0 p h.spatial) e in
        let atoms = heap_few flaw span most hs k h e in
        record {
          pure = pures_small k h.pure a.0;
          pure_few = omega (arith, atoms.0, few.pure);
          spatial = each_of (spatial_flaw flaw span most hs) (spatial_span span) (IsSmallSpatial value)
              (λ n j x g. spatial_small n j x g) 0 p h.spatial a.1;
          spatial_few = omega (arith, atoms.1, few.spatial);
        }

    pub heaps_small : (what : What) (k : ℕ) (heaps : List (Heap T)) → heaps_flaw flaw span most hs what k heaps ≡ None
        → Each (IsSmallHeap value) heaps × (length heaps ≤ heap_limit most what)
    heaps_small what k heaps e = (
      each_of (counted_flaw flaw span most hs what) (heap_span span) (IsSmallHeap value)
          (λ n j h g. heap_small j h (neither (over_if (nat_le (heap_limit most what) n) what j)
          (heap_flaw flaw span most hs j h) g).1)
          0 k heaps e,
      few_all (counted_flaw flaw span most hs what) (heap_span span) (heap_limit most what)
          (λ n j h g. below (heap_limit most what) n (not_over _ what j
          (neither (over_if (nat_le (heap_limit most what) n) what j)
          (heap_flaw flaw span most hs j h) g).0)) k heaps e,
    )
