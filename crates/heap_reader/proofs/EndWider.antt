-- Ends without a flaw have none where more is allowed.
use Rattle.std.proofs.Common.{◌≡◌, ℕ, ◌+◌, Bool, List, [], ◌∷◌, None, refl}
use Rattle.cyc_basics.specs.Limits.{AreWithin}
use Rattle.cyc_basics.specs.declared.limits.Limits.{Limits}
use Rattle.cyc_lex.specs.declared.fault.What.TheVariants.{Disjuncts}
use Rattle.heap_syntax.specs.EndTrees.{End}
use Rattle.heap_reader.specs.Trees.{Heading}
use Rattle.heap_reader.specs.EndSpans.{end_span}
use Rattle.heap_reader.specs.Flaws.{Found, heaps_flaw}
use Rattle.heap_reader.specs.EndFlaws.{end_head_flaw, end_flaw, ends_flaw}
use Rattle.heap_reader.proofs.NoFlaw.{neither, none_later}
use Rattle.heap_reader.proofs.Wider.{heaps_wider}

module _ {T : Type 0} (flaw wider : ℕ → T → Found) (term_wider : (k : ℕ) (t : T) → flaw k t ≡ None → wider k t ≡ None)
    (span : T → ℕ) (most more : Limits) (within : AreWithin most more) (hs : List Heading) (stops : ℕ → Bool) where
  end_wider : (before k : ℕ) (e : End T) → end_flaw flaw span most hs stops before k e ≡ None
      → end_flaw wider span more hs stops before k e ≡ None
  end_wider before k e none =
      let head = end_head_flaw stops before k e.number in
      let both = neither head (heaps_flaw flaw span most hs Disjuncts (k + 3) e.disjuncts) none in
      none_later head (heaps_flaw wider span more hs Disjuncts (k + 3) e.disjuncts) both.0
      (heaps_wider flaw wider term_wider span most more within hs Disjuncts (k + 3) e.disjuncts both.1)

  pub ends_wider : (before k : ℕ) (es : List (End T)) → ends_flaw flaw span most hs stops before k es ≡ None
      → ends_flaw wider span more hs stops before k es ≡ None
  ends_wider before k [] none = refl
  ends_wider before k (e ∷ es) none =
      let behind = k + end_span span e in
      let both = neither (end_flaw flaw span most hs stops before k e)
      (ends_flaw flaw span most hs stops e.number behind es) none in
      none_later (end_flaw wider span more hs stops before k e) (ends_flaw wider span more hs stops e.number behind es)
      (end_wider before k e both.0) (ends_wider e.number behind es both.1)
