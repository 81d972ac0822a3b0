-- Values of locals, one after the other.
use Rattle.std.proofs.Common.{◌≡◌, ℕ, zero, suc, ◌+◌, ◌-◌, ◌<◌, ◌≤◌, List, [], ◌∷◌, ◌++◌, length, Bool, true, false}
use Rattle.std.proofs.Common.{◌||◌, refl, sym, ap, ◌∙◌, subst, inl, inr, arith, append_assoc}
use Rattle.std.proofs.lemmas.Bool.{cases_lt}
use Rattle.std.proofs.lemmas.List.{append-nil, nil_from_length}
use Rattle.heap_formula.specs.Symbolic.{SymbolicHeap}
use Rattle.heap_formula.specs.Values.{Stack}
use Rattle.heap_formula.specs.Cells.{Cells}
use Rattle.heap_formula.specs.Meaning.{SpatialHolds, Holds}
use Rattle.counter_model.specs.Bounds.{AreAtMost}
use Rattle.counter_model.specs.Findings.{Findings, IsFound, found_if_asked, FitsBehind, UnlessGrown}
use Rattle.counter_model.proofs.Turns.{both_steps, then}

module _ (n q : ℕ) (vs : List ℕ) (b : SymbolicHeap) (made : Stack) where
  -- no value comes after these
  pub none_behind : (t0 t1 : Findings) (grown : Bool) (left : ℕ) → left ≡ 0
      → UnlessGrown grown t0 t1 ((h : Cells) → SpatialHolds (λ _. found_if_asked n t0) vs made b.spatial h
      → IsFound n t0 q h) → UnlessGrown grown t0 t1 ((h : Cells) → FitsBehind n (found_if_asked n t0) vs h b made left
      → IsFound n t0 q h)
  none_behind t0 t1 grown left none =
      then t0 t1 grown (λ f h k.
      let whole : made ++ k.behind ≡ made = ap (λ (e : Stack). made ++ e) (nil_from_length k.behind (k.long ∙ none))
      ∙ append-nil made in
      f h (subst (λ (e : Stack). SpatialHolds (λ _. found_if_asked n t0) vs e b.spatial h) whole k.holds.1))

  -- the values below v are done
  abbrev pub AreTried : ℕ → ℕ → Findings → Type 0
  AreTried left v t = (h : Cells) (u : ℕ) → u < v → FitsBehind n (found_if_asked n t) vs h b (made ++ u ∷ []) left
      → IsFound n t q h

  -- one value more is done
  pub value_tried : (t0 t1 t2 : Findings) (grown more both : Bool) → both ≡ (grown || more) → (left v : ℕ)
      → UnlessGrown grown t0 t1 (AreTried left v t0) → UnlessGrown more t1 t2
      ((h : Cells) → FitsBehind n (found_if_asked n t1) vs h b (made ++ v ∷ []) left → IsFound n t1 q h)
      → UnlessGrown both t0 t2 (AreTried left (v + 1) t0)
  value_tried t0 t1 t2 grown more both either left v =
      both_steps t0 t1 t2 grown more both either (AreTried left v)
      (λ t. (h : Cells) → FitsBehind n (found_if_asked n t) vs h b (made ++ v ∷ []) left → IsFound n t q h)
      (AreTried left (v + 1)) (λ t before now h u lt k.
      elim (cases_lt u v) as (λ z. IsFound n t q h) [
        | inl below ↦ before h u below k
        | inr ge ↦ let same : u ≡ v = omega arith in
            now h (subst (λ w. FitsBehind n (found_if_asked n t) vs h b (made ++ w ∷ []) left) same k)
      ])

  -- the next of the values behind, and the others
  parted : (t : Findings) (h : Cells) (left v : ℕ) (behind : Stack) → 0 < left → n + 1 ≤ v → length behind ≡ left
      → AreAtMost n behind → Holds (λ _. found_if_asked n t) vs (made ++ behind) b h → AreTried (left - 1) v t
      → IsFound n t q h
  parted t h left v [] some past long small holds tried = absurd (omega arith)
  parted t h left v (u ∷ us) some past long small holds tried =
      let low = small.0 in
      tried h u (omega arith) (record {
        behind = us;
        long = omega arith;
        small = small.1;
        holds = subst (λ (e : Stack). Holds (λ _. found_if_asked n t) vs e b h) (sym (append_assoc made (u ∷ []) us))
            holds;
      })

  -- all values are done
  pub all_tried : (t0 t1 : Findings) (grown : Bool) (left v : ℕ) → 0 < left → n + 1 ≤ v
      → UnlessGrown grown t0 t1 (AreTried (left - 1) v t0) → UnlessGrown grown t0 t1
      ((h : Cells) → FitsBehind n (found_if_asked n t0) vs h b made left → IsFound n t0 q h)
  all_tried t0 t1 grown left v some past = then t0 t1 grown
      (λ f h k. parted t0 h left v k.behind some past k.long k.small k.holds f)
