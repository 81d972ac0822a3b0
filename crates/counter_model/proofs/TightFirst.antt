-- Among all stacks with a counter-model the first tight one is first.
use Rattle.std.proofs.Common.{◌≡◌, ◌≢◌, ℕ, zero, suc, ◌+◌, ◌*◌, ◌^◌, ◌<◌, ◌≤◌, max, List, [], ◌∷◌, length, refl, sym}
use Rattle.std.proofs.Common.{ap, ◌∙◌, subst, inl, inr, ◌⊎◌, arith}
use Rattle.std.proofs.lemmas.Bool.{cases_lt}
use Rattle.std.proofs.lemmas.Nat.{mul-add-lt}
use Rattle.std.proofs.Math.Nat.{pow-suc, pow-zero}
use Rattle.std.specs.declared.cmp.Ordering.{Ordering}
use Rattle.std.specs.declared.cmp.Ordering.TheVariants.{Less, Equal, Greater}
use Rattle.std.specs.Ordering.{nat_cmp}
use Rattle.std.specs.Cmp.{nat_cmp_is}
use Rattle.std.specs.Cmp.Lexicographic.{slice_cmp, nat_list_cmp_total}
use Rattle.heap_formula.specs.Symbolic.{SymbolicHeap}
use Rattle.heap_formula.specs.Definitions.{Definition}
use Rattle.heap_formula.specs.Words.{Each}
use Rattle.heap_formula.specs.Values.{Stack}
use Rattle.heap_formula.specs.Cells.{Cells}
use Rattle.counter_model.specs.Sizes.{IsOfSize}
use Rattle.counter_model.specs.FirstCounter.{IsCounter}
use Rattle.counter_model.specs.Tightness.{Breaks}
use Rattle.counter_model.proofs.Tight.{earlier}

-- the number that the entries spell
spell : ℕ → Stack → ℕ
spell n [] = 0
spell n (v ∷ s) = v * (n + 1) ^ length s + spell n s

spell-lt : (n : ℕ) (s : Stack) → Each (λ v. v ≤ n) s → spell n s < (n + 1) ^ length s
unfolding spell
spell-lt n [] e = let p : (n + 1) ^ 0 ≡ 1 = pow-zero (n + 1) in omega (arith, p)
spell-lt n (v ∷ s) e =
    let r = spell-lt n s e.1 in
    let p : (n + 1) ^ suc (length s) ≡ (n + 1) ^ length s * (n + 1) = pow-suc (n + 1) (length s) in
    let q : v * (n + 1) ^ length s + spell n s < (n + 1) ^ length s * (n + 1) = mul-add-lt v ((n + 1) ^ length s)
    (spell n s) (n + 1) (let l : v ≤ n = e.0 in omega arith) r in
    rw p q

ordered : (a b : ℕ) → (a < b) ⊎ ((a ≡ b) ⊎ (b < a))
ordered a b = elim (cases_lt a b) [
  | inl l ↦ inl l
  | inr g ↦ elim (cases_lt b a)
      [ inl l ↦ inr (inr l) | inr k ↦ inr (inl (let e : a ≡ b = omega arith in e)) ]
]

spell_less : (n : ℕ) (s t : Stack) → length s ≡ length t → Each (λ v. v ≤ n) s → Each (λ v. v ≤ n) t
    → slice_cmp nat_cmp s t ≡ Less → spell n s < spell n t
unfolding spell
spell_less n [] [] l e f c = absurd (let z : Equal ≡ Less = c in cc)
spell_less n [] (w ∷ t) l e f c = absurd (let z : 0 ≡ suc (length t) = l in omega arith)
spell_less n (v ∷ s) [] l e f c = absurd (let z : suc (length s) ≡ 0 = l in omega arith)
spell_less n (v ∷ s) (w ∷ t) l e f c =
    let z : suc (length s) ≡ suc (length t) = l in
    let k : length s ≡ length t = omega arith in
    elim (ordered v w) [
      | inl lt ↦
          let q : v * (n + 1) ^ length s + spell n s < (n + 1) ^ length s * w = mul-add-lt v ((n + 1) ^ length s)
          (spell n s) w lt (spell-lt n s e.1) in
          let p : (n + 1) ^ length s ≡ (n + 1) ^ length t = ap (λ x. (n + 1) ^ x) k in
          let q' : v * (n + 1) ^ length s + spell n s < (n + 1) ^ length t * w = subst
          (λ x. v * (n + 1) ^ length s + spell n s < x * w) p q in
          omega arith
      | inr o ↦
          elim o [
            | inl same ↦
                let o : nat_cmp v w ≡ Equal = sym (nat_cmp_is v w Equal same) in
                let c' : slice_cmp nat_cmp s t ≡ Less = rw o at c in
                let r = spell_less n s t k e.1 f.1 c' in
                let p : v * (n + 1) ^ length s ≡ w * (n + 1) ^ length t = ap (λ x. x * (n + 1) ^ length s) same
                ∙ ap (λ x. w * (n + 1) ^ x) k in
                omega arith
            | inr gt ↦
                let o : nat_cmp v w ≡ Greater = sym (nat_cmp_is v w Greater gt) in
                absurd (let y : Greater ≡ Less = rw o at c in cc)
          ]
    ]

-- not after an earlier one, so not after
not_after : (s t u : Stack) → slice_cmp nat_cmp s t ≢ Greater → slice_cmp nat_cmp t u ≡ Less
    → slice_cmp nat_cmp s u ≢ Greater
not_after s t u a b = by_order (slice_cmp nat_cmp s t) refl
  where
    by_order : (o : Ordering) → slice_cmp nat_cmp s t ≡ o → slice_cmp nat_cmp s u ≢ Greater
    by_order Less e = λ g. let x = nat_list_cmp_total.trans s t u e b in let y : Less ≡ Greater = sym x ∙ g in cc
    by_order Equal e = λ g. let x = nat_list_cmp_total.congr s t u e in let y : Less ≡ Greater = sym b ∙ sym x ∙ g in cc
    by_order Greater e = absurd (a e)

breaks_or : (m : ℕ) (s : Stack) → Breaks m s ⊎ (Breaks m s → ⊥)
breaks_or m [] = inr (λ b. b)
breaks_or m (v ∷ s) = elim (cases_lt (m + 1) v) [
  | inl l ↦ inl (inl l)
  | inr g ↦ elim (breaks_or (max m v) s) [
    | inl b ↦ inl (inr b)
    | inr n ↦ inr
        (λ o. elim o [ inl l ↦ omega arith | inr b ↦ n b ])
  ]
]

module _ (ds : List Definition) (a : SymbolicHeap) (bs : List SymbolicHeap) (n long : ℕ) (IsCount : ℕ → Type 0)
    (P : Stack → Type 0) (down : (t u : Stack) → slice_cmp nat_cmp t u ≡ Less → P t → P u)
    (tight : (t : Stack) (g : Cells) → (Breaks 0 t → ⊥) → IsOfSize n long IsCount t g → IsCounter ds a bs t g → P t)
  where
    -- what holds of each tight stack with a counter-model, and of later ones, holds of each stack with a counter-model
    reached : (m : ℕ) (t : Stack) (g : Cells) → spell n t < m → IsOfSize n long IsCount t g → IsCounter ds a bs t g
        → P t
    reached zero t g l z c = absurd (omega arith)
    reached (suc m) t g l z c = elim (breaks_or 0 t) [
      | inl b ↦
          let r = earlier ds a bs n long IsCount t g b z c in
          let k : spell n r.0 < spell n t = spell_less n r.0 t (r.2.stack ∙ sym z.stack) r.2.entries z.entries r.4 in
          down r.0 t r.4 (reached m r.0 r.1 (omega arith) r.2 r.3)
      | inr k ↦ tight t g k z c
    ]

    pub all_reached : (t : Stack) (g : Cells) → IsOfSize n long IsCount t g → IsCounter ds a bs t g → P t
    all_reached t g z c = reached (suc (spell n t)) t g (omega arith) z c

-- the first tight stack with a counter-model is not after any other
pub tight_first : (ds : List Definition) (a : SymbolicHeap) (bs : List SymbolicHeap) (n long : ℕ) (IsCount : ℕ → Type 0)
    (s : Stack) → ((t : Stack) (g : Cells) → (Breaks 0 t → ⊥) → IsOfSize n long IsCount t g → IsCounter ds a bs t g
    → slice_cmp nat_cmp s t ≢ Greater) → (t : Stack) (g : Cells) → IsOfSize n long IsCount t g → IsCounter ds a bs t g
    → slice_cmp nat_cmp s t ≢ Greater
tight_first ds a bs n long IsCount s f = all_reached ds a bs n long IsCount (λ t. slice_cmp nat_cmp s t ≢ Greater)
    (λ t u l p. not_after s t u p l) f

-- if no tight stack has a counter-model, no stack has one
pub tight_none : (ds : List Definition) (a : SymbolicHeap) (bs : List SymbolicHeap) (n long : ℕ) (IsCount : ℕ → Type 0)
    → ((t : Stack) (g : Cells) → (Breaks 0 t → ⊥) → IsOfSize n long IsCount t g → IsCounter ds a bs t g → ⊥)
    → (t : Stack) (g : Cells) → IsOfSize n long IsCount t g → IsCounter ds a bs t g → ⊥
tight_none ds a bs n long IsCount f = all_reached ds a bs n long IsCount (λ t. ⊥) (λ t u l p. p) f
