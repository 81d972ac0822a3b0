-- The first flaw of what is kept of heaps is the first flaw of the heaps, where more is kept than every limit; and
-- without a flaw all is kept.
use Rattle.std.proofs.Common.{◌≡◌, ℕ, zero, suc, ◌+◌, ◌<◌, ◌≤◌, List, [], ◌∷◌, take, Some, None, refl, ap, ◌∙◌, arith}
use Rattle.std.specs.Prelude.{map, nat_le}
use Rattle.std.proofs.lemmas.List.{take_all}
use Rattle.cyc_basics.specs.declared.limits.Limits.{Limits}
use Rattle.cyc_lex.specs.declared.fault.What.{What}
use Rattle.heap_syntax.specs.declared.keep.Keep.TheVariants.{Beyond}
use Rattle.heap_syntax.specs.declared.tree.PureTree.{PureTree}
use Rattle.heap_syntax.specs.Keeping.{members, heap_front, heaps_front}
use Rattle.heap_syntax.specs.Trees.{Spatial, Heap}
use Rattle.heap_reader.specs.Trees.{Heading}
use Rattle.heap_reader.specs.Spans.{pure_span, pures_span, spatial_span, heap_span}
use Rattle.heap_reader.specs.Flaws.{Found, over_if, or_later, listed_flaw, pure_flaw, spatial_flaw, heap_flaw}
use Rattle.heap_reader.specs.Flaws.{heap_limit, counted_flaw, heaps_flaw}
use Rattle.heap_reader.proofs.NoFlaw.{neither, not_over, below, few_all}
use Rattle.heap_reader.proofs.Fitting.{pure_few, spatial_few}

-- ---- lists whose members from some number on have a flaw

module _ {X : Type 0} (flaw : ℕ → ℕ → X → Found) (span : X → ℕ) (most : ℕ)
    (few : (n k : ℕ) (x : X) → flaw n k x ≡ None → n < most) where
  taken_flaw : (n k m : ℕ) (xs : List X) → most ≤ n + m
      → listed_flaw flaw span n k (take (suc m) xs) ≡ listed_flaw flaw span n k xs
  taken_flaw n k m [] h = refl
  taken_flaw n k zero (x ∷ xs) h = by (flaw n k x) refl
    where
      by : (o : Found) → flaw n k x ≡ o → or_later (flaw n k x) None
          ≡ or_later (flaw n k x) (listed_flaw flaw span (suc n) (k + span x) xs)
      by None e = let lt = few n k x e in absurd (omega (arith, lt, h))
      by (Some f) e = rw e refl
  taken_flaw n k (suc m) (x ∷ xs) h = ap (λ o. or_later (flaw n k x) o)
      (taken_flaw (suc n) (k + span x) m xs (omega (arith, h)))

  pub members_flaw : (k m : ℕ) (xs : List X) → most ≤ m
      → listed_flaw flaw span 0 k (members (Beyond m) xs) ≡ listed_flaw flaw span 0 k xs
  members_flaw k m [] h = refl
  members_flaw k m (x ∷ xs) h = taken_flaw 0 k m (x ∷ xs) (omega (arith, h))

  pub members_whole : (k m : ℕ) (xs : List X) → most ≤ m → listed_flaw flaw span 0 k xs ≡ None
      → members (Beyond m) xs ≡ xs
  members_whole k m [] h e = refl
  members_whole k m (x ∷ xs) h e =
      let short = few_all flaw span most few k (x ∷ xs) e in
      ap (λ ys. x ∷ ys) (take_all m xs (omega (arith, short, h)))

-- ---- lists whose members are kept in part

module _ {X : Type 0} (flaw : ℕ → ℕ → X → Found) (span : X → ℕ) (f : X → X)
    (same : (n k : ℕ) (x : X) → flaw n k (f x) ≡ flaw n k x) (whole : (n k : ℕ) (x : X) → flaw n k x ≡ None → f x ≡ x)
  where
    pub mapped_flaw : (n k : ℕ) (xs : List X) → listed_flaw flaw span n k (map f xs) ≡ listed_flaw flaw span n k xs
    mapped_flaw n k [] = refl
    mapped_flaw n k (x ∷ xs) = by (mapped_flaw (suc n) (k + span x) xs) (flaw n k x) refl
      where
        by : listed_flaw flaw span (suc n) (k + span x) (map f xs) ≡ listed_flaw flaw span (suc n) (k + span x) xs
            → (o : Found) → flaw n k x ≡ o → or_later (flaw n k (f x))
            (listed_flaw flaw span (suc n) (k + span (f x)) (map f xs))
            ≡ or_later (flaw n k x) (listed_flaw flaw span (suc n) (k + span x) xs)
        by later (Some g) e = rw (same n k x, e) refl
        by later None e = rw (same n k x, e, whole n k x e) later

    pub mapped_whole : (n k : ℕ) (xs : List X) → listed_flaw flaw span n k xs ≡ None → map f xs ≡ xs
    mapped_whole n k [] e = refl
    mapped_whole n k (x ∷ xs) e =
        let both = neither (flaw n k x) (listed_flaw flaw span (suc n) (k + span x) xs) e in
        rw (whole n k x both.0, mapped_whole (suc n) (k + span x) xs both.1) refl

-- ---- heaps

module _ {T : Type 0} (flaw : ℕ → T → Found) (span : T → ℕ) (most : Limits) (hs : List Heading) (m : ℕ)
    (pures_within : most.pure ≤ m) (spatials_within : most.spatial ≤ m) where
  abbrev pures_found : ℕ → List (PureTree T) → Found
  pures_found k xs = listed_flaw (pure_flaw flaw span most) (pure_span span) 0 k xs

  abbrev spatials_found : ℕ → List (Spatial T) → Found
  spatials_found k xs = listed_flaw (spatial_flaw flaw span most hs) (spatial_span span) 0 k xs

  pub front_flaw : (k : ℕ) (h : Heap T) → heap_flaw flaw span most hs k (heap_front (Beyond m) h)
      ≡ heap_flaw flaw span most hs k h
  front_flaw k h = by (pures_found k h.pure) refl
    where
      by : (o : Found) → pures_found k h.pure ≡ o → heap_flaw flaw span most hs k (heap_front (Beyond m) h)
          ≡ heap_flaw flaw span most hs k h
      by (Some f) e = rw (
        members_flaw (pure_flaw flaw span most) (pure_span span) most.pure
            (pure_few flaw span most hs) k m h.pure pures_within,
        e,
      )
          refl
      by None e =
          rw (members_whole (pure_flaw flaw span most) (pure_span span) most.pure (pure_few flaw span most hs) k m
          h.pure pures_within e)
          (ap (λ o. or_later (pures_found k h.pure) o)
          (members_flaw (spatial_flaw flaw span most hs) (spatial_span span) most.spatial
          (spatial_few flaw span most hs)
          (k + pures_span span h.pure) m h.spatial spatials_within))

  pub front_whole : (k : ℕ) (h : Heap T) → heap_flaw flaw span most hs k h ≡ None → heap_front (Beyond m) h ≡ h
  front_whole k h e =
      let both = neither (pures_found k h.pure) (spatials_found (k + pures_span span h.pure) h.spatial) e in
      rw (
        members_whole (pure_flaw flaw span most) (pure_span span) most.pure (pure_few flaw span most hs) k m h.pure
            pures_within both.0,
        members_whole (spatial_flaw flaw span most hs) (spatial_span span) most.spatial (spatial_few flaw span most hs)
            (k + pures_span span h.pure) m h.spatial spatials_within both.1,
      ) refl

  module _ (what : What) (heaps_within : heap_limit most what ≤ m) where
    counted_few : (n k : ℕ) (h : Heap T) → counted_flaw flaw span most hs what n k h ≡ None
        → n < heap_limit most what
    counted_few n k h e = below (heap_limit most what) n (not_over _ what k
        (neither (over_if (nat_le (heap_limit most what) n) what k)
        (heap_flaw flaw span most hs k h) e).0)

    counted_same : (n k : ℕ) (h : Heap T) → counted_flaw flaw span most hs what n k (heap_front (Beyond m) h)
        ≡ counted_flaw flaw span most hs what n k h
    counted_same n k h = ap (λ o. or_later (over_if (nat_le (heap_limit most what) n) what k) o) (front_flaw k h)

    counted_whole : (n k : ℕ) (h : Heap T) → counted_flaw flaw span most hs what n k h ≡ None
        → heap_front (Beyond m) h ≡ h
    counted_whole n k h e = front_whole k h (neither (over_if (nat_le (heap_limit most what) n) what k)
        (heap_flaw flaw span most hs k h)
        e).1

    pub fronts_flaw : (k : ℕ) (heaps : List (Heap T))
        → heaps_flaw flaw span most hs what k (heaps_front (Beyond m) heaps) ≡ heaps_flaw flaw span most hs what k heaps
    fronts_flaw k heaps =
        members_flaw (counted_flaw flaw span most hs what) (heap_span span) (heap_limit most what) counted_few k m
        (map (heap_front (Beyond m)) heaps) heaps_within
        ∙ mapped_flaw (counted_flaw flaw span most hs what) (heap_span span) (heap_front (Beyond m))
        counted_same counted_whole 0 k heaps

    pub fronts_whole : (k : ℕ) (heaps : List (Heap T)) → heaps_flaw flaw span most hs what k heaps ≡ None
        → heaps_front (Beyond m) heaps ≡ heaps
    fronts_whole k heaps e =
        let mapped = mapped_flaw (counted_flaw flaw span most hs what) (heap_span span) (heap_front (Beyond m))
        counted_same counted_whole 0 k heaps in
        members_whole (counted_flaw flaw span most hs what) (heap_span span) (heap_limit most what) counted_few k m
        (map (heap_front (Beyond m)) heaps) heaps_within (mapped ∙ e)
        ∙ mapped_whole (counted_flaw flaw span most hs what) (heap_span span) (heap_front (Beyond m))
        counted_same counted_whole 0 k heaps e
