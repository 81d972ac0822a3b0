-- A heap with addresses from 1 to n has at most n cells.
use Rattle.std.proofs.Common.{◌≡◌, ◌≢◌, ℕ, zero, suc, ◌+◌, ◌<◌, ◌≤◌, List, [], ◌∷◌, length, Bool, true, false, cond}
use Rattle.std.proofs.Common.{Option, Some, None, refl, sym, ap, ◌∙◌, subst, inl, inr, arith}
use Rattle.std.proofs.lemmas.Bool.{cases_lt}
use Rattle.std.specs.Ordering.{nat_cmp}
use Rattle.std.specs.Cmp.{nat_cmp_total, eq_by_cmp_equiv}
use Rattle.std.specs.FinMap.{insert, contains_key, len, len-empty, len-insert, get-insert, get-empty}
use Rattle.heap_formula.specs.Cells.{Cells, cell_at, no_cells}
use Rattle.heap_formula.proofs.Unions.{same_cells}
use Rattle.counter_model.specs.Bounds.{IsWithin}
use Rattle.counter_model.specs.Sizes.{rows}
use Rattle.heap_formula.proofs.Addresses.{other_address}

heap_of : ℕ → List (Option (List ℕ)) → Cells
heap_of a [] = no_cells
heap_of a (None ∷ rs) = heap_of (suc a) rs
heap_of a (Some vs ∷ rs) = insert (heap_of (suc a) rs) a vs

below_none : (a : ℕ) (rs : List (Option (List ℕ))) (q : ℕ) → q < a → cell_at (heap_of a rs) q ≡ None
unfolding heap_of
below_none a [] q l = get-empty nat_cmp q
below_none a (None ∷ rs) q l = below_none (suc a) rs q (omega arith)
below_none a (Some vs ∷ rs) q l =
    let n : q ≢ a = omega arith in
    get-insert nat_cmp_total (heap_of (suc a) rs) a vs q
    ∙ ap (λ b. cond b (Some vs) (cell_at (heap_of (suc a) rs) q)) (other_address q a n)
    ∙ below_none (suc a) rs q (omega arith)

at_first : (a : ℕ) (r : Option (List ℕ)) (rs : List (Option (List ℕ))) → cell_at (heap_of a (r ∷ rs)) a ≡ r
unfolding heap_of
at_first a None rs = below_none (suc a) rs a (omega arith)
at_first a (Some vs) rs = get-insert nat_cmp_total (heap_of (suc a) rs) a vs a
    ∙ ap (λ b. cond b (Some vs) (cell_at (heap_of (suc a) rs) a)) ((eq_by_cmp_equiv nat_cmp_total).refl a)

at_later : (a : ℕ) (r : Option (List ℕ)) (rs : List (Option (List ℕ))) (q : ℕ) → a < q
    → cell_at (heap_of a (r ∷ rs)) q ≡ cell_at (heap_of (suc a) rs) q
unfolding heap_of
at_later a None rs q l = refl
at_later a (Some vs) rs q l =
    let n : q ≢ a = omega arith in
    get-insert nat_cmp_total (heap_of (suc a) rs) a vs q
    ∙ ap (λ b. cond b (Some vs) (cell_at (heap_of (suc a) rs) q)) (other_address q a n)

at_rows : (h : Cells) (a k q : ℕ) → a ≤ q → q < a + k → cell_at (heap_of a (rows h a k)) q ≡ cell_at h q
at_rows h a zero q l u = absurd (omega arith)
at_rows h a (suc k) q l u = elim (cases_lt a q) [
  | inl lt ↦ at_later a (cell_at h a) (rows h (suc a) k) q lt ∙ at_rows h (suc a) k q lt (omega arith)
  | inr ge ↦ let e : a ≡ q = omega arith in subst (λ x. cell_at (heap_of a (rows h a (suc k))) x ≡ cell_at h x) e
      (at_first a (cell_at h a) (rows h (suc a) k))
]

above_none : (a : ℕ) (rs : List (Option (List ℕ))) (q : ℕ) → a + length rs ≤ q → cell_at (heap_of a rs) q ≡ None
unfolding heap_of
above_none a [] q l = get-empty nat_cmp q
above_none a (r ∷ rs) q l = at_later a r rs q (omega arith) ∙ above_none (suc a) rs q (omega arith)

length_rows : (h : Cells) (a k : ℕ) → length (rows h a k) ≡ k
length_rows h a zero = refl
length_rows h a (suc k) = ap suc (length_rows h (suc a) k)

no_cell : (n : ℕ) (h : Cells) → IsWithin n h → (q : ℕ) → ((0 < q) × (q ≤ n) → ⊥) → None ≡ cell_at h q
no_cell n h z q out = by_cell (cell_at h q) refl
  where
    by_cell : (o : Option (List ℕ)) → cell_at h q ≡ o → None ≡ cell_at h q
    by_cell None e = sym e
    by_cell (Some vs) e = absurd (out (z.addresses q vs e))

-- the heap is that of its rows
heap_rows : (n : ℕ) (h : Cells) → IsWithin n h → heap_of 1 (rows h 1 n) ≡ h
heap_rows n h z = same_cells _ _ at
  where
    at : (q : ℕ) → cell_at (heap_of 1 (rows h 1 n)) q ≡ cell_at h q
    at q = elim (cases_lt q 1) [
      | inl lt ↦ below_none 1 (rows h 1 n) q lt ∙ no_cell n h z q (λ o. let p : 0 < q = o.0 in omega arith)
      | inr ge ↦
          elim (cases_lt n q) [
            | inl lt ↦ let l : length (rows h 1 n) ≡ n = length_rows h 1 n in
                above_none 1 (rows h 1 n) q (omega arith) ∙ no_cell n h z q (λ o. let p : q ≤ n = o.1 in omega arith)
            | inr le ↦ at_rows h 1 n q ge (omega arith)
          ]
    ]

few_rows : (a : ℕ) (rs : List (Option (List ℕ))) → len (heap_of a rs) ≤ length rs
unfolding heap_of
few_rows a [] = let e : len no_cells ≡ 0 = len-empty nat_cmp (List ℕ) in omega arith
few_rows a (None ∷ rs) = let r : len (heap_of (suc a) rs) ≤ length rs = few_rows (suc a) rs in omega arith
few_rows a (Some vs ∷ rs) =
    let r : len (heap_of (suc a) rs) ≤ length rs = few_rows (suc a) rs in
    at_most (contains_key (heap_of (suc a) rs) a) (len-insert nat_cmp_total (heap_of (suc a) rs) a vs) r
  where
    at_most : (b : Bool) → len (insert (heap_of (suc a) rs) a vs)
        ≡ cond b (len (heap_of (suc a) rs)) (len (heap_of (suc a) rs) + 1) → len (heap_of (suc a) rs) ≤ length rs
        → len (insert (heap_of (suc a) rs) a vs) ≤ suc (length rs)
    at_most true e r = omega (arith, e)
    at_most false e r = omega (arith, e)

pub few_cells : (n : ℕ) (h : Cells) → IsWithin n h → len h ≤ n
few_cells n h w =
    let r : len (heap_of 1 (rows h 1 n)) ≤ length (rows h 1 n) = few_rows 1 (rows h 1 n) in
    let l : length (rows h 1 n) ≡ n = length_rows h 1 n in
    let s : len (heap_of 1 (rows h 1 n)) ≤ n = omega arith in
    subst (λ g. len g ≤ n) (heap_rows n h w) s
