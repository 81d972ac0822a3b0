-- Rows of tables.
use Rattle.std.proofs.Common.{◌≡◌, ℕ, zero, suc, ◌<◌, List, [], ◌∷◌, ◌++◌, map, length, Bool, true, false, get_or}
use Rattle.std.proofs.Common.{arith, sym, ap, ◌∙◌, subst}
use Rattle.std.specs.Prelude.{slice_set}
use Rattle.pair_family.specs.BasePairs.{BasePair}
use Rattle.pair_family.specs.Tables.{pairs_of}
use Rattle.cyc_basics.specs.Words.{IsMember}
use Rattle.pair_family.specs.Labels.{IsAdded}
use Rattle.sat_pairs.specs.Growth.{with_pair, IsAddedTo}

module _ {S : Type 0} (keys : S → List BasePair) where
  row_at : (rows : List S) (p : ℕ) (old : S) → p < length rows → get_or rows p old ≡ old
      → pairs_of (map keys rows) p ≡ keys old
  row_at [] p old l e = absurd (omega arith)
  row_at (r ∷ rows) zero old l e = ap keys e
  row_at (r ∷ rows) (suc p) old l e = row_at rows p old (omega arith) e

  row_new : (rows : List S) (p : ℕ) (old new : S) (k : BasePair) → p < length rows → get_or rows p old ≡ old
      → keys new ≡ keys old ++ (k ∷ []) → map keys (slice_set rows p new) ≡ with_pair (map keys rows) p k
  row_new [] p old new k l e n = absurd (omega arith)
  row_new (r ∷ rows) zero old new k l e n = let h : keys new ≡ keys r ++ (k ∷ []) = n
      ∙ ap (λ z. keys z ++ (k ∷ [])) (sym e) in λ i. h i ∷ map keys rows
  row_new (r ∷ rows) (suc p) old new k l e n = ap (λ z. keys r ∷ z) (row_new rows p old new k (omega arith) e n)

  row_same : (rows : List S) (p : ℕ) (old new : S) → p < length rows → get_or rows p old ≡ old → keys new ≡ keys old
      → map keys (slice_set rows p new) ≡ map keys rows
  row_same [] p old new l e n = absurd (omega arith)
  row_same (r ∷ rows) zero old new l e n = let h : keys new ≡ keys r = n ∙ ap keys (sym e) in λ i. h i ∷ map keys rows
  row_same (r ∷ rows) (suc p) old new l e n = ap (λ z. keys r ∷ z) (row_same rows p old new (omega arith) e n)

  pub table_added : (rows : List S) (p : ℕ) (old new : S) (k : BasePair) (b : Bool) → p < length rows
      → get_or rows p old ≡ old → IsAdded (keys old) (keys new) k b
      → IsAddedTo (map keys rows) (map keys (slice_set rows p new)) p k b
  table_added rows p old new k true l e a = (
    (λ m. a.0 (subst (IsMember k) (row_at rows p old l e) m)),
    row_new rows p old new k l e a.1,
  )
  table_added rows p old new k false l e a = (
    subst (IsMember k) (sym (row_at rows p old l e)) a.0,
    row_same rows p old new l e a.1,
  )
