-- The first stack with a counter-model names new values in ascending order.
use Rattle.std.proofs.Common.{◌≡◌, ◌≢◌, ℕ, zero, suc, ◌+◌, ◌<◌, ◌≤◌, max, List, [], ◌∷◌, length, Option, Some, None}
use Rattle.std.proofs.Common.{refl, sym, ap, ◌∙◌, subst, inl, inr, ◌⊎◌, arith, map}
use Rattle.std.specs.Prelude.{nat_eq, if◌then◌else◌}
use Rattle.std.proofs.lemmas.Bool.{cases_Bool, eqb-true, eqb-false, eq-eqb, ne_eqb}
use Rattle.std.specs.declared.cmp.Ordering.TheVariants.{Less, Equal}
use Rattle.std.specs.Ordering.{nat_cmp}
use Rattle.std.specs.Cmp.{nat_cmp_is}
use Rattle.std.specs.Cmp.Lexicographic.{slice_cmp}
use Rattle.heap_formula.specs.Symbolic.{SymbolicHeap}
use Rattle.heap_formula.specs.Definitions.{Definition}
use Rattle.heap_formula.specs.Words.{Each}
use Rattle.heap_formula.specs.Values.{Stack}
use Rattle.heap_formula.specs.Cells.{Cells, cell_at}
use Rattle.counter_model.specs.Sizes.{IsOfSize}
use Rattle.counter_model.specs.FirstCounter.{IsCounter}
use Rattle.counter_model.specs.Tightness.{Breaks}
use Rattle.counter_model.proofs.Renaming.{renamed, at_renamed, over, satisfies_renamed, one_renamed_back}

pub transposed : ℕ → ℕ → ℕ → ℕ
transposed x y k = if nat_eq k x then y else if nat_eq k y then x else k

transposed_first : (x y : ℕ) → transposed x y x ≡ y
unfolding transposed
transposed_first x y = rw (eq-eqb x x refl) refl

transposed_second : (x y : ℕ) → transposed x y y ≡ x
unfolding transposed
transposed_second x y = elim (cases_Bool (nat_eq y x)) [
  | inl yes' ↦ rw yes' (eqb-true y x yes')
  | inr no' ↦ rw (no', eq-eqb y y refl) refl
]

pub transposed_other : (x y k : ℕ) → k ≢ x → k ≢ y → transposed x y k ≡ k
unfolding transposed
transposed_other x y k a b = rw (ne_eqb k x a, ne_eqb k y b) refl

either_same : (k x : ℕ) → (k ≡ x) ⊎ (k ≢ x)
either_same k x = elim (cases_Bool (nat_eq k x)) [
  | inl yes' ↦ inl (eqb-true k x yes')
  | inr no' ↦ inr
      (eqb-false k x no')
]

pub transposed_twice : (x y k : ℕ) → transposed x y (transposed x y k) ≡ k
transposed_twice x y k = elim (either_same k x) [
  | inl e ↦ ap (λ j. transposed x y (transposed x y j)) e ∙ ap (transposed x y) (transposed_first x y)
      ∙ transposed_second x y ∙ sym e
  | inr a ↦
      elim (either_same k y) [
        | inl e ↦ ap (λ j. transposed x y (transposed x y j)) e ∙ ap (transposed x y) (transposed_second x y)
            ∙ transposed_first x y ∙ sym e
        | inr b ↦ ap (transposed x y) (transposed_other x y k a b) ∙ transposed_other x y k a b
      ]
]

transposed_le : (x y n k : ℕ) → x ≤ n → y ≤ n → k ≤ n → transposed x y k ≤ n
transposed_le x y n k a b c = elim (either_same k x) [
  | inl e ↦ subst (λ j. j ≤ n) (sym (ap (transposed x y) e ∙ transposed_first x y)) b
  | inr p ↦
      elim (either_same k y) [
        | inl e ↦ subst (λ j. j ≤ n) (sym (ap (transposed x y) e ∙ transposed_second x y)) a
        | inr q ↦ subst (λ j. j ≤ n) (sym (transposed_other x y k p q)) c
      ]
]

-- two numbers whose change of places gives an earlier stack
pub record Lowers (m n : ℕ) (s : Stack) : Type 0 where
  pub x : ℕ
  pub y : ℕ
  pub above : m < x
  pub order : x < y
  pub most : y ≤ n
  pub less : slice_cmp nat_cmp (map (transposed x y) s) s ≡ Less

less_cmp : (a b : ℕ) → a < b → nat_cmp a b ≡ Less
less_cmp a b h = sym (nat_cmp_is a b Less h)

same_cmp : (a : ℕ) → nat_cmp a a ≡ Equal
same_cmp a = sym (nat_cmp_is a a Equal refl)

pub lowers : (m n : ℕ) (s : Stack) → Each (λ v. v ≤ n) s → Breaks m s → Lowers m n s
lowers m n [] e b = absurd b
lowers m n (v ∷ s) e (inl b) = record {
  x = m + 1;
  y = v;
  above = omega arith;
  order = b;
  most = e.0;
  less = rw (transposed_second (m + 1) v, less_cmp (m + 1) v b) refl;
}
lowers m n (v ∷ s) e (inr b) =
    let r = lowers (max m v) n s e.1 b in
    let a : max m v < r.x = r.above in
    let o : r.x < r.y = r.order in
    let k : transposed r.x r.y v ≡ v = transposed_other r.x r.y v (omega arith) (omega arith) in
    record { x = r.x; y = r.y; above = omega arith; order = o; most = r.most; less = rw (k, same_cmp v) r.less }

entries_le : (x y n : ℕ) (vs : List ℕ) → x ≤ n → y ≤ n → Each (λ v. v ≤ n) vs
    → Each (λ v. v ≤ n) (map (transposed x y) vs)
entries_le x y n [] a b e = tt
entries_le x y n (v ∷ vs) a b e = (transposed_le x y n v a b e.0, entries_le x y n vs a b e.1)

length_map : (f : ℕ → ℕ) (vs : List ℕ) → length (map f vs) ≡ length vs
length_map f [] = refl
length_map f (v ∷ vs) = ap suc (length_map f vs)

over_some : (f : List ℕ → List ℕ) (o : Option (List ℕ)) (vs : List ℕ) → over f o ≡ Some vs
    → (us : List ℕ) × (o ≡ Some us) × (vs ≡ f us)
over_some f None vs e = absurd (let b : None ≡ Some vs = e in cc)
over_some f (Some us) vs e = (us, refl, (let b : Some (f us) ≡ Some vs = e in cc))

back_range : (x y n d : ℕ) → 0 < x → x < y → y ≤ n → 0 < transposed x y d → transposed x y d ≤ n → (0 < d) × (d ≤ n)
back_range x y n zero a b c p q =
    let z : transposed x y 0 ≡ 0 = transposed_other x y 0 (omega arith) (omega arith) in
    absurd (let p' : 0 < 0 = subst (λ k. 0 < k) z p in omega arith)
back_range x y n (suc d) a b c p q =
    let l : transposed x y (transposed x y (suc d)) ≤ n = transposed_le x y n (transposed x y (suc d)) (omega arith) c q
    in
    (omega arith, subst (λ k. k ≤ n) (transposed_twice x y (suc d)) l)

-- a stack that skips a value has a counter-model only if an earlier stack has one
pub earlier : (ds : List Definition) (a : SymbolicHeap) (bs : List SymbolicHeap) (n long : ℕ) (IsCount : ℕ → Type 0)
    (s : Stack) (h : Cells) → Breaks 0 s → IsOfSize n long IsCount s h → IsCounter ds a bs s h
    → (s' : Stack) × (h' : Cells) × IsOfSize n long IsCount s' h' × IsCounter ds a bs s' h'
    × (slice_cmp nat_cmp s' s ≡ Less)
earlier ds a bs n long IsCount s h b z c =
    let r = lowers 0 n s z.entries b in
    let o : r.x < r.y = r.order in
    let p : 0 < r.x = r.above in
    let q : r.y ≤ n = r.most in
    let f = transposed r.x r.y in
    let w = transposed_twice r.x r.y in
    let f0 : f 0 ≡ 0 = transposed_other r.x r.y 0 (omega arith) (omega arith) in
    let g = renamed f w f0 h in
    let old = λ (d : ℕ) (vs : List ℕ) (e : cell_at g d ≡ Some vs). over_some (map f) (cell_at h (f d)) vs
    (sym (at_renamed f w f0 h d) ∙ e) in (
      map f s,
      g,
      record {
        stack = length_map f s ∙ z.stack;
        entries = entries_le r.x r.y n s (omega arith) q z.entries;
        addresses = λ d vs e.
            let t = old d vs e in
            let k = z.addresses (f d) t.0 t.1 in
            back_range r.x r.y n d p o q k.0 k.1;
        cells = λ d vs e.
            let t = old d vs e in
            let k = z.cells (f d) t.0 t.1 in
            let l : length vs ≡ length t.0 = ap length t.2 ∙ length_map f t.0 in
            record {
              count = subst IsCount (sym l) k.count;
              positive = (let j : 0 < length t.0 = k.positive in omega arith);
              fields = subst (Each (λ v. v ≤ n)) (sym t.2) (entries_le r.x r.y n t.0 (omega arith) q k.fields);
            };
      },
      record {
        antecedent = satisfies_renamed f w f0 ds s h a c.antecedent;
        disjuncts = λ x. c.disjuncts (one_renamed_back f w f0 ds s h bs x);
      },
      r.less,
    )
