-- Of n + 1 positive numbers one is free in a heap of n cells.
use Rattle.std.proofs.Common.{◌≡◌, ℕ, zero, suc, ◌+◌, ◌<◌, ◌≤◌, Bool, true, false, ◌||◌, ◌⊎◌, inl, inr, List, [], ◌∷◌}
use Rattle.std.proofs.Common.{length, Option, Some, None, refl, ap, subst, ◌∙◌, arith}
use Rattle.std.specs.Prelude.{IsSome}
use Rattle.std.specs.List.{AllByRecursion, IsDistinct, list_any}
use Rattle.std.specs.Ordering.{nat_cmp, eq_by_cmp}
use Rattle.std.specs.Cmp.{nat_cmp_total, eq_by_cmp_equiv}
use Rattle.std.specs.FinMap.{entries, len, get-entries, len-entries}
use Rattle.std.proofs.lemmas.Map.Steps.{length-le_from_keys}
use Rattle.std.proofs.lemmas.Bool.{cases_lt}
use Rattle.heap_formula.specs.Cells.{Cells, cell_at}
use Rattle.heap_formula.proofs.Insertions.{same_address}
use Rattle.goto_lang.proofs.Maps.{find-lookup}
use Rattle.goto_lang.specs.States.{IsLeastFree}

-- n, n - 1, .., 1
down : ℕ → List ℕ
down zero = []
down (suc n) = suc n ∷ down n

length-down : (n : ℕ) → length (down n) ≡ n
unfolding down
length-down zero = refl
length-down (suc n) = ap suc (length-down n)

apart : (b : Bool) (x y : ℕ) → eq_by_cmp nat_cmp x y ≡ b → y < x → b ≡ false
apart true x y e h = let s = same_address x y e in absurd (omega arith)
apart false x y e h = refl

above : (x n : ℕ) → n < x → AllByRecursion (λ y. eq_by_cmp nat_cmp x y ≡ false) (down n)
unfolding down
above x zero h = tt
above x (suc n) h = (apart _ x (suc n) refl h, above x n (omega arith))

distinct : (n : ℕ) → IsDistinct (eq_by_cmp nat_cmp) (down n)
unfolding down IsDistinct
distinct zero = tt
distinct (suc n) = (above (suc n) n (omega arith), distinct n)

-- what is among the first n numbers
among : (q n : ℕ) → list_any (eq_by_cmp nat_cmp q) (down n) ≡ true → (0 < q) × (q ≤ n)
unfolding down
among q zero e = cc
among q (suc n) e = first (eq_by_cmp nat_cmp q (suc n)) refl e (λ f. among q n f)
  where
    first : (b : Bool) → eq_by_cmp nat_cmp q (suc n) ≡ b → (b || list_any (eq_by_cmp nat_cmp q) (down n)) ≡ true
        → (list_any (eq_by_cmp nat_cmp q) (down n) ≡ true → (0 < q) × (q ≤ n)) → (0 < q) × (q ≤ suc n)
    first true t e later = let s = same_address q (suc n) t in (omega arith, omega arith)
    first false t e later = let r = later e in (r.0, omega arith)

pub enough : (h : Cells) (n : ℕ) → ((b : ℕ) → 0 < b → b ≤ n → IsSome (cell_at h b)) → n ≤ len h
enough h n all =
    let l = length-le_from_keys (eq_by_cmp_equiv nat_cmp_total) (down n) (entries h) (distinct n)
    (λ q e. let r = among q n e in subst IsSome (get-entries h q ∙ find-lookup q (entries h)) (all q r.0 r.1)) in
    let d = length-down n in
    let e = len-entries h in omega arith

none_or_some : {X : Type 0} (o : Option X) → (IsSome o → ⊥) → o ≡ None
none_or_some None f = refl
none_or_some (Some x) f = absurd (f refl)

-- one more number than there are cells is enough
pub last_free : (h : Cells) → ((b : ℕ) → 0 < b → b < len h + 1 → IsSome (cell_at h b)) → IsLeastFree h (len h + 1)
last_free h all = record {
  positive = omega arith;
  free = none_or_some _ (λ s. let r = enough h (len h + 1) (λ b p le. upto b p le s (cases_lt b (len h + 1))) in
      absurd (omega arith));
  least = all;
}
  where
    upto : (b : ℕ) → 0 < b → b ≤ len h + 1 → IsSome (cell_at h (len h + 1)) → (b < len h + 1) ⊎ (len h + 1 ≤ b)
        → IsSome (cell_at h b)
    upto b p le s (inl l) = all b p l
    upto b p le s (inr l) = let e : len h + 1 ≡ b = omega arith in subst (λ n. IsSome (cell_at h n)) e s
