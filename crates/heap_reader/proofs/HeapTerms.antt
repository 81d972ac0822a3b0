-- What holds of each term without a flaw holds of the terms of a heap's value, and bounds of a heap's variables.
use Rattle.std.proofs.Common.{◌≡◌, ℕ, ◌+◌, ◌≤◌, Bool, true, false, List, length, map, None, arith}
use Rattle.std.specs.Prelude.{if◌then◌else◌, nat_le}
use Rattle.cyc_basics.specs.declared.limits.Limits.{Limits}
use Rattle.heap_formula.specs.declared.terms.Term.{Term}
use Rattle.heap_formula.specs.declared.atoms.Pure.{Pure}
use Rattle.heap_formula.specs.declared.atoms.Pure.TheVariants.{Eq, Neq}
use Rattle.heap_formula.specs.declared.atoms.Spatial.{Spatial as SpatialAtom}
use Rattle.heap_formula.specs.declared.atoms.Spatial.TheVariants as atoms
use Rattle.heap_formula.specs.Closedness.{InPure, InSpatial, InHeap}
use Rattle.heap_formula.specs.Fresh.{univ_bound, exist_bound, pure_bound, spatial_bound, heap_bound, pure_exists}
use Rattle.heap_formula.specs.Fresh.{spatial_exists, heap_exists}
use Rattle.heap_formula.specs.Symbolic.{SymbolicHeap}
use Rattle.heap_formula.specs.Words.{Each}
use Rattle.cyc_lex.specs.declared.fault.What.{What}
use Rattle.cyc_lex.specs.declared.fault.What.TheVariants.{Arguments, Pure as PureAtoms, Spatial as SpatialAtoms}
use Rattle.heap_syntax.specs.declared.tree.PureTree.{PureTree}
use Rattle.heap_syntax.specs.Trees.{Spatial, Cell, Predicate, Heap}
use Rattle.heap_reader.specs.Trees.{Heading}
use Rattle.heap_reader.specs.Spans.{pure_span, pures_span, spatial_span, heap_span}
use Rattle.heap_reader.specs.Flaws.{Found, over_if, or_later, listed_flaw, argument_flaw, arguments_flaw, pure_flaw}
use Rattle.heap_reader.specs.Flaws.{arity_in, use_flaw, spatial_flaw, heap_flaw, heap_limit, counted_flaw, heaps_flaw}
use Rattle.heap_reader.specs.Values.{pure_value, spatial_value, heap_value}
use Rattle.heap_reader.proofs.NoFlaw.{neither, each_of as each_flawless}
use Rattle.heap_formula.proofs.AllMembers.{each_imply, each_mapped}
use Rattle.heap_formula.proofs.Greatest.{below_each}

-- ---- what holds of each term without a flaw holds of the terms of a heap without one

module _ {T : Type 0} (flaw : ℕ → T → Found) (span : T → ℕ) (value : T → Term) (Q : Term → Type 0)
    (one : (k : ℕ) (t : T) → flaw k t ≡ None → Q (value t)) (limit : Limits) where
  arguments_keep : (k : ℕ) (ts : List T) → arguments_flaw flaw span limit k ts ≡ None → Each Q (map value ts)
  arguments_keep k ts e =
      each_mapped Q value ts (each_flawless (argument_flaw flaw span limit) span (λ t. Q (value t))
      (λ n j t h. one j t (neither (over_if (nat_le limit.arguments n) Arguments j) (flaw j t) h).1) 0 k ts e)

  pure_keeps : (x : PureTree T) → Q (value x.left) → Q (value x.right) → InPure Q (pure_value value x)
  pure_keeps x left right = by_sign x.is_equation
    where
      by_sign : (b : Bool) → InPure Q (if b then Eq (value x.left) (value x.right) else Neq (value x.left)
          (value x.right))
      by_sign true = (left, right)
      by_sign false = (left, right)

  pures_keep : (k : ℕ) (xs : List (PureTree T)) → listed_flaw (pure_flaw flaw span limit) (pure_span span) 0 k xs ≡ None
      → Each (InPure Q) (map (pure_value value) xs)
  pures_keep k xs e =
      each_mapped (InPure Q) (pure_value value) xs
      (each_flawless (pure_flaw flaw span limit) (pure_span span) (λ x. InPure Q (pure_value value x)) (λ n j x h.
      let sides = neither (flaw j x.left) (flaw (j + span x.left) x.right)
      (neither (over_if (nat_le limit.pure n) PureAtoms j) (or_later (flaw j x.left) (flaw
      (j + span x.left) x.right)) h).1
      in
      pure_keeps x (one j x.left sides.0) (one (j + span x.left) x.right sides.1)) 0 k xs e)

  module _ (hs : List Heading) where
    spatial_keeps : (n k : ℕ) (x : Spatial T) → spatial_flaw flaw span limit hs n k x ≡ None
        → InSpatial Q (spatial_value value hs x)
    spatial_keeps n k (Cell t ts) e =
        let a = neither (over_if (nat_le limit.spatial n) SpatialAtoms k)
        (or_later (flaw k t) (arguments_flaw flaw span limit (k + span t + 1) ts)) e in
        let b = neither (flaw k t) (arguments_flaw flaw span limit (k + span t + 1) ts) a.1 in
        (one k t b.0, arguments_keep (k + span t + 1) ts b.1)
    spatial_keeps n k (Predicate name ts) e =
        let a = neither (use_flaw (arity_in hs name) (length ts) k)
        (or_later (over_if (nat_le limit.spatial n) SpatialAtoms k) (arguments_flaw flaw span limit (k + 2) ts)) e in
        let b = neither (over_if (nat_le limit.spatial n) SpatialAtoms k) (arguments_flaw flaw span limit
        (k + 2) ts) a.1 in
        arguments_keep (k + 2) ts b.1

    pub heap_keeps : (k : ℕ) (h : Heap T) → heap_flaw flaw span limit hs k h ≡ None → InHeap Q (heap_value value hs h)
    heap_keeps k h e =
        let p = k + pures_span span h.pure in
        let a = neither (listed_flaw (pure_flaw flaw span limit) (pure_span span) 0 k h.pure)
        (listed_flaw (spatial_flaw flaw span limit hs) (spatial_span span) 0 p h.spatial) e in (
          pures_keep k h.pure a.0,
          each_mapped (InSpatial Q) (spatial_value value hs) h.spatial
              (each_flawless (spatial_flaw flaw span limit hs) (spatial_span span)
              (λ x. InSpatial Q (spatial_value value hs x)) spatial_keeps 0 p h.spatial a.1),
        )

    pub heaps_keep : (what : What) (k : ℕ) (heaps : List (Heap T)) → heaps_flaw flaw span limit hs what k heaps ≡ None
        → Each (InHeap Q) (map (heap_value value hs) heaps)
    heaps_keep what k heaps e =
        each_mapped (InHeap Q) (heap_value value hs) heaps
        (each_flawless (counted_flaw flaw span limit hs what) (heap_span span) (λ h. InHeap Q (heap_value value hs h))
        (λ n j h g. heap_keeps j h (neither (over_if (nat_le (heap_limit limit what) n) what j)
        (heap_flaw flaw span limit hs j h) g).1) 0 k heaps e)

-- ---- a fact of each term as a bound of the heap

module _ (P Q : Term → Type 0) (g : (t : Term) → P t → Q t) where
  in_pure_each : (x : Pure) → InPure P x → InPure Q x
  in_pure_each (Eq t u) p = (g t p.0, g u p.1)
  in_pure_each (Neq t u) p = (g t p.0, g u p.1)

  in_spatial_each : (x : SpatialAtom) → InSpatial P x → InSpatial Q x
  in_spatial_each (atoms.Cell t ts) p = (g t p.0, each_imply P Q g ts p.1)
  in_spatial_each (atoms.Pred q ts) p = each_imply P Q g ts p

  pub in_heap_each : (a : SymbolicHeap) → InHeap P a → InHeap Q a
  in_heap_each a p = (
    each_imply (InPure P) (InPure Q) in_pure_each a.pure p.0,
    each_imply (InSpatial P) (InSpatial Q) in_spatial_each a.spatial p.1,
  )

module _ (m : ℕ) where
  pure_bounded : (x : Pure) → InPure (λ t. univ_bound t ≤ m) x → pure_bound x ≤ m
  pure_bounded (Eq t u) q = let a = q.0 in let b = q.1 in omega arith
  pure_bounded (Neq t u) q = let a = q.0 in let b = q.1 in omega arith

  spatial_bounded : (x : SpatialAtom) → InSpatial (λ t. univ_bound t ≤ m) x → spatial_bound x ≤ m
  spatial_bounded (atoms.Cell t ts) q = let a = q.0 in let b = below_each univ_bound m ts q.1 in omega arith
  spatial_bounded (atoms.Pred p ts) q = below_each univ_bound m ts q

  pub heap_bounded : (a : SymbolicHeap) → InHeap (λ t. univ_bound t ≤ m) a → heap_bound a ≤ m
  heap_bounded a q =
      let p = below_each pure_bound m a.pure (each_imply (InPure (λ t. univ_bound t ≤ m)) (λ x. pure_bound x ≤ m)
      pure_bounded a.pure q.0) in
      let s = below_each spatial_bound m a.spatial
      (each_imply (InSpatial (λ t. univ_bound t ≤ m)) (λ x. spatial_bound x ≤ m) spatial_bounded a.spatial q.1) in
      omega arith

  pure_open : (x : Pure) → InPure (λ t. exist_bound t ≤ m) x → pure_exists x ≤ m
  pure_open (Eq t u) q = let a = q.0 in let b = q.1 in omega arith
  pure_open (Neq t u) q = let a = q.0 in let b = q.1 in omega arith

  spatial_open : (x : SpatialAtom) → InSpatial (λ t. exist_bound t ≤ m) x → spatial_exists x ≤ m
  spatial_open (atoms.Cell t ts) q = let a = q.0 in let b = below_each exist_bound m ts q.1 in omega arith
  spatial_open (atoms.Pred p ts) q = below_each exist_bound m ts q

  pub heap_open : (a : SymbolicHeap) → InHeap (λ t. exist_bound t ≤ m) a → heap_exists a ≤ m
  heap_open a q =
      let p = below_each pure_exists m a.pure (each_imply (InPure (λ t. exist_bound t ≤ m)) (λ x. pure_exists x ≤ m)
      pure_open a.pure q.0) in
      let s = below_each spatial_exists m a.spatial
      (each_imply (InSpatial (λ t. exist_bound t ≤ m)) (λ x. spatial_exists x ≤ m) spatial_open a.spatial q.1) in
      omega arith
