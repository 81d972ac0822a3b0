-- The first flaw of what is kept of ends is the first flaw of the ends, and without a flaw all is kept; what is kept has
-- no more tokens.
use Rattle.std.proofs.Common.{◌≡◌, ℕ, ◌+◌, ◌≤◌, Bool, List, [], ◌∷◌, Some, None, refl, sym, ap, ◌∙◌}
use Rattle.std.proofs.Common.{arith}
use Rattle.std.specs.Prelude.{map}
use Rattle.cyc_basics.specs.declared.limits.Limits.{Limits}
use Rattle.cyc_lex.specs.declared.fault.What.TheVariants.{Disjuncts}
use Rattle.heap_syntax.specs.declared.keep.Keep.TheVariants.{Beyond}
use Rattle.heap_syntax.specs.EndKeeping.{end_front}
use Rattle.heap_syntax.specs.EndTrees.{End}
use Rattle.heap_syntax.specs.Trees.{Heap}
use Rattle.heap_reader.specs.Trees.{Heading}
use Rattle.heap_reader.specs.Spans.{total}
use Rattle.heap_reader.specs.EndSpans.{end_span}
use Rattle.heap_reader.specs.Flaws.{Found, or_later, heaps_flaw}
use Rattle.heap_reader.specs.EndFlaws.{end_head_flaw, end_flaw, ends_flaw}
use Rattle.heap_reader.proofs.NoFlaw.{neither}
use Rattle.heap_reader.proofs.FlawFronts.{fronts_flaw, fronts_whole}
use Rattle.heap_reader.proofs.FrontSpans.{heaps-span, all-span}

pub ends-span : {T : Type 0} (span : T → ℕ) (m : ℕ) (es : List (End T))
    → total (end_span span) (map (end_front (Beyond m)) es) ≤ total (end_span span) es
ends-span {T = T} span m es = all-span (end_span span) (end_front (Beyond m)) one es
  where
    one : (e : End T) → end_span span (end_front (Beyond m) e) ≤ end_span span e
    one e = let h = heaps-span span m e.disjuncts in omega arith

module _ {T : Type 0} (flaw : ℕ → T → Found) (span : T → ℕ) (most : Limits) (hs : List Heading) (stops : ℕ → Bool)
    (m : ℕ) (pures_within : most.pure ≤ m) (spatials_within : most.spatial ≤ m) (heaps_within : 16 ≤ m) where
  end_same : (before k : ℕ) (e : End T) → end_flaw flaw span most hs stops before k (end_front (Beyond m) e)
      ≡ end_flaw flaw span most hs stops before k e
  end_same before k e = ap (λ o. or_later (end_head_flaw stops before k e.number) o)
      (fronts_flaw flaw span most hs m pures_within spatials_within Disjuncts heaps_within (k + 3) e.disjuncts)

  end_whole : (before k : ℕ) (e : End T) → end_flaw flaw span most hs stops before k e ≡ None
      → end_front (Beyond m) e ≡ e
  end_whole before k e none =
      let both = neither (end_head_flaw stops before k e.number)
      (heaps_flaw flaw span most hs Disjuncts (k + 3) e.disjuncts) none in
      ap (λ (ds : List (Heap T)). record { number = e.number; disjuncts = ds })
      (fronts_whole flaw span most hs m pures_within spatials_within Disjuncts heaps_within (k + 3) e.disjuncts both.1)

  pub ends_same : (before k : ℕ) (es : List (End T))
      → ends_flaw flaw span most hs stops before k (map (end_front (Beyond m)) es)
      ≡ ends_flaw flaw span most hs stops before k es
  ends_same before k [] = refl
  ends_same before k (e ∷ es) = by (ends_same e.number (k + end_span span e) es)
      (end_flaw flaw span most hs stops before k e) refl
    where
      by : ends_flaw flaw span most hs stops e.number (k + end_span span e) (map (end_front (Beyond m)) es)
          ≡ ends_flaw flaw span most hs stops e.number (k + end_span span e) es
          → (o : Found) → end_flaw flaw span most hs stops before k e ≡ o
          → or_later (end_flaw flaw span most hs stops before k (end_front (Beyond m) e))
          (ends_flaw flaw span most hs stops e.number (k + end_span span (end_front (Beyond m) e))
          (map (end_front (Beyond m)) es))
          ≡ or_later (end_flaw flaw span most hs stops before k e)
          (ends_flaw flaw span most hs stops e.number (k + end_span span e) es)
      by later (Some g) found =
          ap (λ o. or_later o (ends_flaw flaw span most hs stops e.number
          (k + end_span span (end_front (Beyond m) e)) (map (end_front (Beyond m)) es))) (end_same before k e ∙ found)
          ∙ ap (λ o. or_later o (ends_flaw flaw span most hs stops e.number (k + end_span span e) es)) (sym found)
      by later None found =
          ap (λ o. or_later o (ends_flaw flaw span most hs stops e.number
          (k + end_span span (end_front (Beyond m) e)) (map (end_front (Beyond m)) es))) (end_same before k e ∙ found)
          ∙ ap (λ (f : End T). ends_flaw flaw span most hs stops e.number (k + end_span span f)
          (map (end_front (Beyond m)) es)) (end_whole before k e found)
          ∙ later
          ∙ ap (λ o. or_later o (ends_flaw flaw span most hs stops e.number (k + end_span span e) es)) (sym found)

  pub ends_whole : (before k : ℕ) (es : List (End T)) → ends_flaw flaw span most hs stops before k es ≡ None
      → map (end_front (Beyond m)) es ≡ es
  ends_whole before k [] none = refl
  ends_whole before k (e ∷ es) none =
      let both = neither (end_flaw flaw span most hs stops before k e)
      (ends_flaw flaw span most hs stops e.number (k + end_span span e) es) none in
      let first = end_whole before k e both.0 in
      let rest = ends_whole e.number (k + end_span span e) es both.1 in
      λ i. first i ∷ rest i
