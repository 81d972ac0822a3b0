-- Numbers from 1 to m change places with those from o + 1 to o + m; the others stay.
use Rattle.std.proofs.Common.{◌≡◌, ℕ, zero, suc, ◌+◌, ◌-◌, ◌<◌, ◌≤◌, Bool, false, cond, refl, ap, ◌∙◌, subst}
use Rattle.std.proofs.Common.{arith, leb, inl, inr}
use Rattle.std.proofs.lemmas.Bool.{le-leb, lt-leb}
use Rattle.std.proofs.lemmas.Bool.Decides.{leb_tells}

abbrev chosen : ℕ → ℕ → Bool → Bool → Bool → Bool → ℕ
chosen o v none low between high = cond none v (cond low (v + o) (cond between v (cond high (v - o) v)))

pub exchange : ℕ → ℕ → ℕ → ℕ
exchange m o v = chosen o v (leb v 0) (leb v m) (leb v o) (leb v (o + m))

pub nil_stays : (m o : ℕ) → exchange m o 0 ≡ 0
unfolding exchange
nil_stays m o = ap (λ b. chosen o 0 b (leb 0 m) (leb 0 o) (leb 0 (o + m))) (le-leb 0 0 (omega arith))

module _ (m o v : ℕ) where
  pub low_goes_up : 0 < v → v ≤ m → exchange m o v ≡ v + o
  unfolding exchange
  low_goes_up some low =
      ap (λ b. chosen o v b (leb v m) (leb v o) (leb v (o + m))) (lt-leb v 0 some)
      ∙ ap (λ b. chosen o v false b (leb v o) (leb v (o + m))) (le-leb v m low)

  between_stays : m < v → v ≤ o → exchange m o v ≡ v
  unfolding exchange
  between_stays above below =
      ap (λ b. chosen o v b (leb v m) (leb v o) (leb v (o + m))) (lt-leb v 0 (omega arith))
      ∙ ap (λ b. chosen o v false b (leb v o) (leb v (o + m))) (lt-leb v m above)
      ∙ ap (λ b. chosen o v false false b (leb v (o + m))) (le-leb v o below)

  high_goes_down : m ≤ o → o < v → v ≤ o + m → exchange m o v ≡ v - o
  unfolding exchange
  high_goes_down far above below =
      ap (λ b. chosen o v b (leb v m) (leb v o) (leb v (o + m))) (lt-leb v 0 (omega arith))
      ∙ ap (λ b. chosen o v false b (leb v o) (leb v (o + m))) (lt-leb v m (omega arith))
      ∙ ap (λ b. chosen o v false false b (leb v (o + m))) (lt-leb v o above)
      ∙ ap (λ b. chosen o v false false false b) (le-leb v (o + m) below)

  beyond_stays : m ≤ o → o + m < v → exchange m o v ≡ v
  unfolding exchange
  beyond_stays far above =
      ap (λ b. chosen o v b (leb v m) (leb v o) (leb v (o + m))) (lt-leb v 0 (omega arith))
      ∙ ap (λ b. chosen o v false b (leb v o) (leb v (o + m))) (lt-leb v m (omega arith))
      ∙ ap (λ b. chosen o v false false b (leb v (o + m))) (lt-leb v o (omega arith))
      ∙ ap (λ b. chosen o v false false false b) (lt-leb v (o + m) above)

-- twice is once too often
pub exchanged_twice : (m o : ℕ) → m ≤ o → (v : ℕ) → exchange m o (exchange m o v) ≡ v
exchanged_twice m o far v =
    elim (leb_tells v 0) [
      | inl none ↦
          let is : 0 ≡ v = omega (arith, none.1) in
          subst (λ n. exchange m o (exchange m o n) ≡ n) is (ap (exchange m o) (nil_stays m o) ∙ nil_stays m o)
      | inr some ↦
          elim (leb_tells v m) [
            | inl low ↦
                ap (exchange m o) (low_goes_up m o v some.1 low.1)
                ∙ high_goes_down m o (v + o) far (omega (arith, some.1)) (omega (arith, low.1))
                ∙ omega arith
            | inr above ↦
                elim (leb_tells v o) [
                  | inl below ↦
                      ap (exchange m o) (between_stays m o v above.1 below.1) ∙ between_stays m o v above.1 below.1
                  | inr higher ↦
                      elim (leb_tells v (o + m)) [
                        | inl high ↦
                            ap (exchange m o) (high_goes_down m o v far higher.1 high.1)
                            ∙ low_goes_up m o (v - o) (omega (arith, higher.1)) (omega (arith, high.1, higher.1))
                            ∙ omega (arith, higher.1)
                        | inr beyond ↦
                            ap (exchange m o) (beyond_stays m o v far beyond.1) ∙ beyond_stays m o v far beyond.1
                      ]
                ]
          ]
    ]

-- ---- a place for each of infinitely many ranges

-- ranges of these lengths have places behind one another, each behind its own length
abbrev pub offset : (ℕ → ℕ) → ℕ → ℕ
offset m zero = m zero
offset m (suc n) = offset m n + m n + m (suc n)

pub offset_far : (m : ℕ → ℕ) (n : ℕ) → m n ≤ offset m n
offset_far m zero = omega arith
offset_far m (suc n) =
    let is : offset m (suc n) ≡ offset m n + m n + m (suc n) = refl in
    omega (arith, is)

pub offset_behind : (m : ℕ → ℕ) (n k : ℕ) → n < k → offset m n + m n ≤ offset m k
offset_behind m n zero less = absurd (omega (arith, less))
offset_behind m n (suc k) less =
    let is : offset m (suc k) ≡ offset m k + m k + m (suc k) = refl in
    elim (leb_tells k n) [
      | inl at ↦
          let same : k ≡ n = omega (arith, at.1, less) in
          subst (λ x. offset m x + m x ≤ offset m (suc k)) same (omega (arith, is))
      | inr before ↦ let r = offset_behind m n k before.1 in omega (arith, is, r)
    ]
