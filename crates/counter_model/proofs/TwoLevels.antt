-- The first pair from the first stack and its first heap.
use Rattle.std.proofs.Common.{◌≡◌, ◌≢◌, ℕ, List, refl, sym, subst}
use Rattle.std.specs.declared.cmp.Ordering.{Ordering}
use Rattle.std.specs.declared.cmp.Ordering.TheVariants.{Less, Equal, Greater}
use Rattle.std.specs.Ordering.{nat_cmp}
use Rattle.std.specs.FinMap.{nat_cmp-IsAntisymmetric, slice_cmp-IsAntisymmetric}
use Rattle.std.specs.Cmp.Lexicographic.{slice_cmp}
use Rattle.heap_formula.specs.Symbolic.{SymbolicHeap}
use Rattle.heap_formula.specs.Definitions.{Definition}
use Rattle.heap_formula.specs.Values.{Stack}
use Rattle.heap_formula.specs.Cells.{Cells}
use Rattle.counter_model.specs.Sizes.{heap_cmp, pair_cmp}
use Rattle.counter_model.specs.FirstCounter.{HasSize, IsCounter, IsFirstCounter}

module _ (ds : List Definition) (a : SymbolicHeap) (bs : List SymbolicHeap) (n : ℕ) where
  abbrev Sized : Stack → Cells → Type 0
  Sized = HasSize ds a bs n

  pub first_pair : (s : Stack) (h : Cells) → Sized s h → IsCounter ds a bs s h
      → ((t : Stack) (g : Cells) → Sized t g → IsCounter ds a bs t g → slice_cmp nat_cmp s t ≢ Greater)
      → ((g : Cells) → Sized s g → IsCounter ds a bs s g → heap_cmp n h g ≢ Greater) → IsFirstCounter ds a bs n s h
  first_pair s h z c f k = record {
    size = z;
    counter = c;
    first = λ t g y d.
        by_order t g y d (slice_cmp nat_cmp s t) refl;
  }
    where
      by_order : (t : Stack) (g : Cells) → Sized t g → IsCounter ds a bs t g → (o : Ordering)
          → slice_cmp nat_cmp s t ≡ o → pair_cmp n s h t g ≢ Greater
      by_order t g y d Less e = rw e (λ x. cc)
      by_order t g y d Equal e =
          let same : s ≡ t = slice_cmp-IsAntisymmetric nat_cmp-IsAntisymmetric s t e in
          rw e (k g (subst (λ u. Sized u g) (sym same) y) (subst (λ u. IsCounter ds a bs u g) (sym same) d))
      by_order t g y d Greater e = absurd (f t g y d e)
