-- The order of heaps is total.
use Rattle.std.proofs.Common.{◌≡◌, ◌≢◌, ℕ, suc, ◌+◌, ◌-◌, ◌≤◌, List, length, refl, sym, ap, ◌∙◌, arith}
use Rattle.std.specs.declared.cmp.Ordering.{Ordering}
use Rattle.std.specs.declared.cmp.Ordering.TheVariants.{Less, Equal, Greater}
use Rattle.std.specs.Ordering.{nat_cmp, ordering_then, ordering_reverse}
use Rattle.std.specs.Cmp.{IsTotalOrder, nat_cmp_total, then_total, on_total}
use Rattle.std.specs.Cmp.Lexicographic.{slice_cmp, nat_list_cmp_total, lists_total, options_total}
use Rattle.heap_formula.specs.Cells.{Cells, cell_at}
use Rattle.counter_model.specs.Sizes.{fields_cmp, cell_cmp, rows, heap_cmp}

fields_total : IsTotalOrder fields_cmp
fields_total = then_total (on_total length nat_cmp_total) nat_list_cmp_total

cells_total : IsTotalOrder cell_cmp
cells_total = options_total fields_total

rows_total : IsTotalOrder (slice_cmp cell_cmp)
rows_total = lists_total cells_total

-- ---- any total order

pub not_after_itself : {X : Type 0} (R : X → X → Ordering) → IsTotalOrder R → (x : X) → R x x ≢ Greater
not_after_itself R t x g = let e : Greater ≡ Less = sym g ∙ t.antisymm x x ∙ ap ordering_reverse g in cc

-- what comes before the first is the first
pub goes_first : {X : Type 0} (R : X → X → Ordering) → IsTotalOrder R → (h x g : X) → R h x ≡ Greater → R h g ≢ Greater
    → R x g ≢ Greater
goes_first R t h x g after led = by_order (R h g) refl
  where
    before : R x h ≡ Less
    before = t.antisymm x h ∙ ap ordering_reverse after

    by_order : (o : Ordering) → R h g ≡ o → R x g ≢ Greater
    by_order Less e = λ k. let l : R x g ≡ Less = t.trans x h g before e in let y : Less ≡ Greater = sym l ∙ k in cc
    by_order Equal e = λ k.
        let l : R g x ≡ Greater = sym (t.congr h g x e) ∙ after in
        let y : Less ≡ Greater = sym (t.antisymm x g ∙ ap ordering_reverse l) ∙ k in
        cc
    by_order Greater e = absurd (led e)

is_greater : (o : Ordering) → (o ≢ Greater → ⊥) → o ≡ Greater
is_greater Less n = absurd (n (λ e. let y : Less ≡ Greater = e in cc))
is_greater Equal n = absurd (n (λ e. let y : Equal ≡ Greater = e in cc))
is_greater Greater n = refl

pub heap_first : (n : ℕ) (h x g : Cells) → (heap_cmp n h x ≢ Greater → ⊥) → heap_cmp n h g ≢ Greater
    → heap_cmp n x g ≢ Greater
heap_first n h x g a b = goes_first (slice_cmp cell_cmp) rows_total (rows h 1 n) (rows x 1 n) (rows g 1 n)
    (is_greater (heap_cmp n h x) a) b

pub heap_itself : (n : ℕ) (x : Cells) → heap_cmp n x x ≢ Greater
heap_itself n x = not_after_itself (slice_cmp cell_cmp) rows_total (rows x 1 n)

pub stack_first : (h x g : List ℕ) → (slice_cmp nat_cmp h x ≢ Greater → ⊥) → slice_cmp nat_cmp h g ≢ Greater
    → slice_cmp nat_cmp x g ≢ Greater
stack_first h x g a b = goes_first (slice_cmp nat_cmp) nat_list_cmp_total h x g (is_greater (slice_cmp nat_cmp h x) a) b

pub stack_itself : (x : List ℕ) → slice_cmp nat_cmp x x ≢ Greater
stack_itself x = not_after_itself (slice_cmp nat_cmp) nat_list_cmp_total x

-- ---- comparing from an address on

more_rows : (x y : Cells) (a k : ℕ) (o : Ordering) → o ≡ cell_cmp (cell_at x a) (cell_at y a)
    → slice_cmp cell_cmp (rows x a (suc k)) (rows y a (suc k))
    ≡ ordering_then o (slice_cmp cell_cmp (rows x (suc a) k) (rows y (suc a) k))
more_rows x y a k o e = ap (λ p. ordering_then p (slice_cmp cell_cmp (rows x (suc a) k) (rows y (suc a) k))) (sym e)

pub same_so_far : (n : ℕ) (x y : Cells) (a : ℕ) → a ≤ n → Equal ≡ cell_cmp (cell_at x a) (cell_at y a)
    → slice_cmp cell_cmp (rows x a (n + 1 - a)) (rows y a (n + 1 - a))
    ≡ slice_cmp cell_cmp (rows x (a + 1) (n + 1 - (a + 1))) (rows y (a + 1) (n + 1 - (a + 1)))
same_so_far n x y a l e =
    let p : n + 1 - a ≡ suc (n - a) = omega arith in
    let q : n - a ≡ n + 1 - (a + 1) = omega arith in
    let r : suc a ≡ a + 1 = omega arith in
    ap (λ k. slice_cmp cell_cmp (rows x a k) (rows y a k)) p ∙ more_rows x y a (n - a) Equal e
    ∙ ap (λ b. slice_cmp cell_cmp (rows x b (n - a)) (rows y b (n - a))) r
    ∙ ap (λ k. slice_cmp cell_cmp (rows x (a + 1) k) (rows y (a + 1) k)) q
