-- What is kept of lists and heaps has no more tokens.
use Rattle.std.proofs.Common.{ℕ, zero, suc, ◌≤◌, List, [], ◌∷◌, take, arith}
use Rattle.std.specs.Prelude.{map}
use Rattle.heap_syntax.specs.declared.keep.Keep.TheVariants.{Beyond}
use Rattle.heap_syntax.specs.Keeping.{members, heap_front, heaps_front}
use Rattle.heap_syntax.specs.Trees.{Heap}
use Rattle.heap_reader.specs.Spans.{total, total_or, pure_span, spatial_span, heap_span}

-- ---- lists

module _ {X : Type 0} (span : X → ℕ) where
  taken-span : (m : ℕ) (xs : List X) → total span (take m xs) ≤ total span xs
  taken-span zero [] = omega arith
  taken-span zero (x ∷ xs) = omega arith
  taken-span (suc m) [] = omega arith
  taken-span (suc m) (x ∷ xs) = omega (arith, taken-span m xs)

  members-span : (m : ℕ) (xs : List X) → total span (members (Beyond m) xs) ≤ total span xs
  members-span m [] = omega arith
  members-span m (x ∷ xs) = omega (arith, taken-span m xs)

  members-span-or : (m empty : ℕ) (xs : List X) → total_or empty span (members (Beyond m) xs) ≤ total_or empty span xs
  members-span-or m empty [] = omega arith
  members-span-or m empty (x ∷ xs) = omega (arith, taken-span m xs)

  pub all-span : (g : X → X) → ((x : X) → span (g x) ≤ span x) → (xs : List X) → total span (map g xs) ≤ total span xs
  all-span g one [] = omega arith
  all-span g one (x ∷ xs) = omega (arith, one x, all-span g one xs)

-- ---- heaps

module _ {T : Type 0} (span : T → ℕ) (m : ℕ) where
  pub heap-span : (h : Heap T) → heap_span span (heap_front (Beyond m) h) ≤ heap_span span h
  heap-span h = omega (
    arith,
    members-span-or (pure_span span) m 2 h.pure,
    members-span-or (spatial_span span) m 2 h.spatial,
  )

  pub heaps-span : (hs : List (Heap T)) → total (heap_span span) (heaps_front (Beyond m) hs) ≤ total (heap_span span) hs
  heaps-span hs =
      omega (
        arith,
        members-span (heap_span span) m (map (heap_front (Beyond m)) hs),
        all-span (heap_span span) (heap_front (Beyond m)) heap-span hs,
      )
