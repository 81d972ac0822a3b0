-- A flaw stands at a token of its part.
use Rattle.std.proofs.Common.{◌≡◌, ℕ, suc, ◌+◌, ◌<◌, ◌≤◌, Bool, true, false, List, [], ◌∷◌, length, Option, Some, None}
use Rattle.std.proofs.Common.{subst, arith}
use Rattle.std.specs.Prelude.{nat_eq, nat_le, not}
use Rattle.cyc_basics.specs.declared.limits.Limits.{Limits}
use Rattle.cyc_lex.specs.declared.fault.IllFault.{IllFault}
use Rattle.cyc_lex.specs.declared.fault.IllFault.TheVariants.{Arity}
use Rattle.cyc_lex.specs.declared.fault.What.{What}
use Rattle.cyc_lex.specs.declared.fault.What.TheVariants.{Arguments, Pure, Spatial as SpatialAtoms}
use Rattle.heap_syntax.specs.declared.tree.PureTree.{PureTree}
use Rattle.heap_syntax.specs.Trees.{Spatial, Cell, Predicate, Heap}
use Rattle.heap_reader.specs.declared.flaw.Flaw.{Flaw}
use Rattle.heap_reader.specs.Trees.{Heading}
use Rattle.heap_reader.specs.Spans.{total, total_or, pure_span, pures_span, spatial_span, spatials_span, heap_span}
use Rattle.heap_reader.specs.Flaws.{Found, ill_if, over_if, or_later, listed_flaw, argument_flaw, arguments_flaw}
use Rattle.heap_reader.specs.Flaws.{pure_flaw, arity_in, use_flaw, cell_flaw, spatial_flaw, heap_flaw, counted_flaw}
use Rattle.heap_reader.specs.Flaws.{heap_limit, heaps_flaw}

-- each flaw stands before token m
abbrev pub Before : Found → ℕ → Type 0
Before None m = Unit {0}
Before (Some f) m = f.token < m

pub first_before : (a b : Found) (m : ℕ) → Before a m → Before b m → Before (or_later a b) m
first_before (Some f) b m h k = h
first_before None b m h k = k

pub over_before : (b : Bool) (what : What) (k m : ℕ) → k < m → Before (over_if b what k) m
over_before true what k m h = h
over_before false what k m h = tt

pub ill_before : (b : Bool) (fault : IllFault) (k m : ℕ) → k < m → Before (ill_if b fault k) m
ill_before true fault k m h = h
ill_before false fault k m h = tt

pub later : (a : Found) (m n : ℕ) → m ≤ n → Before a m → Before a n
later None m n le h = tt
later (Some f) m n le h = omega (arith, h)

pub listed_before : {X : Type 0} (flaw : ℕ → ℕ → X → Found) (span : X → ℕ)
    → ((n k : ℕ) (x : X) → Before (flaw n k x) (k + span x)) → (n k : ℕ) (xs : List X)
    → Before (listed_flaw flaw span n k xs) (k + total span xs)
listed_before flaw span one n k [] = tt
listed_before flaw span one n k (x ∷ xs) =
    first_before (flaw n k x) (listed_flaw flaw span (suc n) (k + span x) xs) (k + total span (x ∷ xs))
    (later (flaw n k x) (k + span x) (k + total span (x ∷ xs)) (omega arith) (one n k x))
    (later (listed_flaw flaw span (suc n) (k + span x) xs) (k + span x + total span xs) (k + total span (x ∷ xs))
    (omega arith) (listed_before flaw span one (suc n) (k + span x) xs))

-- the same where an empty list has a word of its own
pub listed_or_before : {X : Type 0} (flaw : ℕ → ℕ → X → Found) (span : X → ℕ) (empty : ℕ)
    → ((n k : ℕ) (x : X) → Before (flaw n k x) (k + span x)) → (k : ℕ) (xs : List X)
    → Before (listed_flaw flaw span 0 k xs) (k + total_or empty span xs)
listed_or_before flaw span empty one k [] = tt
listed_or_before flaw span empty one k (x ∷ xs) = listed_before flaw span one 0 k (x ∷ xs)

pub flaw_within : (o : Found) (m : ℕ) (f : Flaw) → Before o m → o ≡ Some f → f.token < m
flaw_within None m f h e = absurd cc
flaw_within (Some g) m f h e = let same : g ≡ f = cc in subst (λ (x : Flaw). x.token < m) same h

-- ---- heaps

pub use_before : (o : Option ℕ) (n k m : ℕ) → k < m → Before (use_flaw o n k) m
use_before None n k m h = h
use_before (Some arity) n k m h = ill_before (not (nat_eq n arity)) Arity k m h

module _ {T : Type 0} (span : T → ℕ) (some_span : (t : T) → 2 ≤ span t) where
  some_pures : (xs : List (PureTree T)) → 2 ≤ pures_span span xs
  some_pures [] = omega arith
  some_pures (x ∷ xs) = let s = some_span x.left in omega arith

  some_heap_span : (h : Heap T) → 2 ≤ heap_span span h
  some_heap_span h = let s = some_pures h.pure in omega arith

module _ {T : Type 0} (flaw : ℕ → T → Found) (span : T → ℕ) (some_span : (t : T) → 2 ≤ span t)
    (term_before : (k : ℕ) (t : T) → Before (flaw k t) (k + span t)) (most : Limits) where
  argument_before : (n k : ℕ) (t : T) → Before (argument_flaw flaw span most n k t) (k + span t)
  argument_before n k t =
      let s = some_span t in
      first_before (over_if (nat_le most.arguments n) Arguments k) (flaw k t) (k + span t)
      (over_before (nat_le most.arguments n) Arguments k (k + span t) (omega arith)) (term_before k t)

  pure_before : (n k : ℕ) (x : PureTree T) → Before (pure_flaw flaw span most n k x) (k + pure_span span x)
  pure_before n k x =
      let s = some_span x.left in
      let m = k + pure_span span x in
      first_before (over_if (nat_le most.pure n) Pure k) (or_later (flaw k x.left) (flaw (k + span x.left) x.right)) m
      (over_before (nat_le most.pure n) Pure k m (omega arith))
      (first_before (flaw k x.left) (flaw (k + span x.left) x.right) m
      (later (flaw k x.left) (k + span x.left) m (omega arith) (term_before k x.left))
      (later (flaw (k + span x.left) x.right) (k + span x.left + span x.right) m (omega arith)
      (term_before (k + span x.left) x.right)))

  cell_before : (n k : ℕ) (t : T) (ts : List T)
      → Before (cell_flaw flaw span most n k t ts) (k + spatial_span span (Cell t ts))
  cell_before n k t ts =
      let s = some_span t in
      let m = k + spatial_span span (Cell t ts) in
      let p = k + span t + 1 in
      first_before (over_if (nat_le most.spatial n) SpatialAtoms k) (or_later (flaw k t)
      (arguments_flaw flaw span most p ts)) m
      (over_before (nat_le most.spatial n) SpatialAtoms k m (omega arith))
      (first_before (flaw k t) (arguments_flaw flaw span most p ts) m
      (later (flaw k t) (k + span t) m (omega arith) (term_before k t))
      (later (arguments_flaw flaw span most p ts) (p + total span ts) m (omega arith)
      (listed_before (argument_flaw flaw span most) span argument_before 0 p ts)))

  module _ (hs : List Heading) where
    spatial_before : (n k : ℕ) (x : Spatial T) → Before (spatial_flaw flaw span most hs n k x) (k + spatial_span span x)
    spatial_before n k (Cell t ts) = cell_before n k t ts
    spatial_before n k (Predicate name ts) =
        let m = k + spatial_span span (Predicate name ts) in
        let known = use_flaw (arity_in hs name) (length ts) k in
        first_before known (or_later (over_if (nat_le most.spatial n) SpatialAtoms k)
        (arguments_flaw flaw span most (k + 2) ts)) m
        (use_before (arity_in hs name) (length ts) k m (omega arith))
        (first_before (over_if (nat_le most.spatial n) SpatialAtoms k) (arguments_flaw flaw span most (k + 2) ts) m
        (over_before (nat_le most.spatial n) SpatialAtoms k m (omega arith))
        (later (arguments_flaw flaw span most (k + 2) ts) (k + 2 + total_or 1 span ts) m (omega arith)
        (listed_or_before (argument_flaw flaw span most) span 1 argument_before (k + 2) ts)))

    pub heap_before : (k : ℕ) (h : Heap T) → Before (heap_flaw flaw span most hs k h) (k + heap_span span h)
    heap_before k h =
        let m = k + heap_span span h in
        let p = k + pures_span span h.pure in
        let pures = listed_flaw (pure_flaw flaw span most) (pure_span span) 0 k h.pure in
        let spatials = listed_flaw (spatial_flaw flaw span most hs) (spatial_span span) 0 p h.spatial in
        first_before pures spatials m (later pures p m (omega arith)
        (listed_or_before (pure_flaw flaw span most) (pure_span span) 2 pure_before k h.pure))
        (later spatials (p + spatials_span span h.spatial) m (omega arith)
        (listed_or_before (spatial_flaw flaw span most hs) (spatial_span span) 2 spatial_before p h.spatial))

    counted_before : (what : What) (n k : ℕ) (h : Heap T)
        → Before (counted_flaw flaw span most hs what n k h) (k + heap_span span h)
    counted_before what n k h =
        let s = some_heap_span span some_span h in
        first_before (over_if (nat_le (heap_limit most what) n) what k) (heap_flaw flaw span most hs k h)
        (k + heap_span span h)
        (over_before (nat_le (heap_limit most what) n) what k (k + heap_span span h) (omega arith)) (heap_before k h)

    pub heaps_before : (what : What) (k : ℕ) (heaps : List (Heap T))
        → Before (heaps_flaw flaw span most hs what k heaps) (k + total (heap_span span) heaps)
    heaps_before what k heaps = listed_before (counted_flaw flaw span most hs what) (heap_span span)
        (counted_before what) 0 k heaps
