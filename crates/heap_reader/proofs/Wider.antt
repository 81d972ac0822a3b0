-- A heap without a flaw has none where more is allowed.
use Rattle.std.proofs.Common.{◌≡◌, ℕ, suc, ◌+◌, ◌≤◌, List, [], ◌∷◌, length, None, refl, ap, arith}
use Rattle.std.specs.Prelude.{nat_le}
use Rattle.std.proofs.lemmas.Bool.{lt-leb}
use Rattle.cyc_basics.specs.Limits.{AreWithin}
use Rattle.cyc_basics.specs.declared.limits.Limits.{Limits}
use Rattle.cyc_lex.specs.declared.fault.What.{What}
use Rattle.cyc_lex.specs.declared.fault.What.TheVariants.{Arguments, Cases, Pure, Spatial as SpatialAtoms}
use Rattle.heap_syntax.specs.declared.tree.PureTree.{PureTree}
use Rattle.heap_syntax.specs.Trees.{Spatial, Cell, Predicate, Heap}
use Rattle.heap_reader.specs.Trees.{Heading}
use Rattle.heap_reader.specs.Spans.{pure_span, pures_span, spatial_span, heap_span}
use Rattle.heap_reader.specs.Flaws.{Found, over_if, or_later, listed_flaw, argument_flaw, arguments_flaw, pure_flaw}
use Rattle.heap_reader.specs.Flaws.{arity_in, use_flaw, spatial_flaw, heap_flaw, heap_limit, counted_flaw, heaps_flaw}
use Rattle.heap_reader.proofs.NoFlaw.{neither, none_later, not_over, below}

-- members without one flaw have none of another that each of them lacks
pub listed_wider : {X : Type 0} (flaw other : ℕ → ℕ → X → Found) (span : X → ℕ)
    → ((n k : ℕ) (x : X) → flaw n k x ≡ None → other n k x ≡ None) → (n k : ℕ) (xs : List X)
    → listed_flaw flaw span n k xs ≡ None → listed_flaw other span n k xs ≡ None
listed_wider flaw other span one n k [] e = refl
listed_wider flaw other span one n k (x ∷ xs) e =
    let both = neither (flaw n k x) (listed_flaw flaw span (suc n) (k + span x) xs) e in
    none_later (other n k x) (listed_flaw other span (suc n) (k + span x) xs) (one n k x both.0)
    (listed_wider flaw other span one (suc n) (k + span x) xs both.1)

-- a count within one limit is within a greater
pub over_wider : (least most : ℕ) → least ≤ most → (what : What) (n k : ℕ) → over_if (nat_le least n) what k ≡ None
    → over_if (nat_le most n) what k ≡ None
over_wider least most le what n k e =
    let few = below least n (not_over _ what k e) in
    ap (λ b. over_if b what k) (lt-leb most n (omega (arith, few, le)))

module _ (most more : Limits) (within : AreWithin most more) where
  heaps_together : (what : What) → heap_limit most what ≤ heap_limit more what
  heaps_together Cases = within.cases
  heaps_together what = omega arith

-- over two flaws of a term: one that has not the first has not the second
module _ {T : Type 0} (flaw wider : ℕ → T → Found) (term_wider : (k : ℕ) (t : T) → flaw k t ≡ None → wider k t ≡ None)
    (span : T → ℕ) (most more : Limits) (within : AreWithin most more) (hs : List Heading) where
  argument_wider : (n k : ℕ) (t : T) → argument_flaw flaw span most n k t ≡ None
      → argument_flaw wider span more n k t ≡ None
  argument_wider n k t e =
      let both = neither (over_if (nat_le most.arguments n) Arguments k) (flaw k t) e in
      none_later (over_if (nat_le more.arguments n) Arguments k) (wider k t)
      (over_wider most.arguments more.arguments within.arguments Arguments n k both.0) (term_wider k t both.1)

  arguments_wider : (k : ℕ) (ts : List T) → arguments_flaw flaw span most k ts ≡ None
      → arguments_flaw wider span more k ts ≡ None
  arguments_wider k ts e = listed_wider (argument_flaw flaw span most) (argument_flaw wider span more) span
      argument_wider 0 k ts e

  pure_wider : (n k : ℕ) (x : PureTree T) → pure_flaw flaw span most n k x ≡ None
      → pure_flaw wider span more n k x ≡ None
  pure_wider n k x e =
      let p = k + span x.left in
      let both = neither (over_if (nat_le most.pure n) Pure k) (or_later (flaw k x.left) (flaw p x.right)) e in
      let sides = neither (flaw k x.left) (flaw p x.right) both.1 in
      none_later (over_if (nat_le more.pure n) Pure k) (or_later (wider k x.left) (wider p x.right))
      (over_wider most.pure more.pure within.pure Pure n k both.0)
      (none_later (wider k x.left) (wider p x.right) (term_wider k x.left sides.0) (term_wider p x.right sides.1))

  spatial_wider : (n k : ℕ) (x : Spatial T) → spatial_flaw flaw span most hs n k x ≡ None
      → spatial_flaw wider span more hs n k x ≡ None
  spatial_wider n k (Cell t ts) e =
      let p = k + span t + 1 in
      let both = neither (over_if (nat_le most.spatial n) SpatialAtoms k)
      (or_later (flaw k t) (arguments_flaw flaw span most p ts)) e in
      let sides = neither (flaw k t) (arguments_flaw flaw span most p ts) both.1 in
      none_later (over_if (nat_le more.spatial n) SpatialAtoms k)
      (or_later (wider k t) (arguments_flaw wider span more p ts))
      (over_wider most.spatial more.spatial within.spatial SpatialAtoms n k both.0)
      (none_later (wider k t) (arguments_flaw wider span more p ts) (term_wider k t sides.0)
      (arguments_wider p ts sides.1))
  spatial_wider n k (Predicate name ts) e =
      let known = use_flaw (arity_in hs name) (length ts) k in
      let over = over_if (nat_le most.spatial n) SpatialAtoms k in
      let first = neither known (or_later over (arguments_flaw flaw span most (k + 2) ts)) e in
      let both = neither over (arguments_flaw flaw span most (k + 2) ts) first.1 in
      none_later known
      (or_later (over_if (nat_le more.spatial n) SpatialAtoms k) (arguments_flaw wider span more (k + 2) ts)) first.0
      (none_later (over_if (nat_le more.spatial n) SpatialAtoms k) (arguments_flaw wider span more (k + 2) ts)
      (over_wider most.spatial more.spatial within.spatial SpatialAtoms n k both.0)
      (arguments_wider (k + 2) ts both.1))

  pub heap_wider : (k : ℕ) (h : Heap T) → heap_flaw flaw span most hs k h ≡ None
      → heap_flaw wider span more hs k h ≡ None
  heap_wider k h e =
      let p = k + pures_span span h.pure in
      let both = neither (listed_flaw (pure_flaw flaw span most) (pure_span span) 0 k h.pure)
      (listed_flaw (spatial_flaw flaw span most hs) (spatial_span span) 0 p h.spatial) e in
      none_later (listed_flaw (pure_flaw wider span more) (pure_span span) 0 k h.pure)
      (listed_flaw (spatial_flaw wider span more hs) (spatial_span span) 0 p h.spatial)
      (listed_wider (pure_flaw flaw span most) (pure_flaw wider span more) (pure_span span) pure_wider 0 k h.pure
      both.0)
      (listed_wider (spatial_flaw flaw span most hs) (spatial_flaw wider span more hs) (spatial_span span)
      spatial_wider 0 p h.spatial both.1)

  counted_wider : (what : What) (n k : ℕ) (h : Heap T) → counted_flaw flaw span most hs what n k h ≡ None
      → counted_flaw wider span more hs what n k h ≡ None
  counted_wider what n k h e =
      let both = neither (over_if (nat_le (heap_limit most what) n) what k) (heap_flaw flaw span most hs k h) e in
      none_later (over_if (nat_le (heap_limit more what) n) what k) (heap_flaw wider span more hs k h)
      (over_wider (heap_limit most what) (heap_limit more what) (heaps_together most more within what) what n k both.0)
      (heap_wider k h both.1)

  pub heaps_wider : (what : What) (k : ℕ) (heaps : List (Heap T)) → heaps_flaw flaw span most hs what k heaps ≡ None
      → heaps_flaw wider span more hs what k heaps ≡ None
  heaps_wider what k heaps e =
      listed_wider (counted_flaw flaw span most hs what) (counted_flaw wider span more hs what) (heap_span span)
      (counted_wider what) 0 k heaps e
