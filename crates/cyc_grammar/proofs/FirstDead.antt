-- A list of words has one first dead word.
use Rattle.std.proofs.Common.{◌≡◌, ℕ, ◌+◌, ◌-◌, ◌<◌, List, ◌++◌, take, drop, ap, subst, ◌∙◌, inl, inr, arith}
use Rattle.std.proofs.Common.{append_assoc, take-add}
use Rattle.std.proofs.lemmas.Bool.{cases_lt}
use Rattle.cyc_lex.specs.Word.{Word}
use Rattle.cyc_grammar.specs.Syntax.{Syntax}
use Rattle.cyc_grammar.specs.Faults.{BeginsText, IsFirstDead}

module _ {T : Type 0} (s : Syntax T) (ws : List Word) where
  -- what begins with more words begins with fewer
  fewer : (j m : ℕ) → BeginsText s (take (j + m) ws) → BeginsText s (take j ws)
  fewer j m begins = (
    begins.0,
    take m (drop j ws) ++ begins.1,
    begins.2,
    begins.3 ∙ ap (λ front. front ++ begins.1) (take-add j m ws)
        ∙ append_assoc (take j ws) (take m (drop j ws)) begins.1,
  )

  -- a word before the first dead one is not the first dead one
  not_before : (j k : ℕ) → j < k → IsFirstDead s ws j → IsFirstDead s ws k → ⊥
  not_before j k l first second =
      let sum : k ≡ j + 1 + (k - (j + 1)) = omega (arith, l) in
      first.dead (fewer (j + 1) (k - (j + 1)) (subst (λ n. BeginsText s (take n ws)) sum second.alive))

  pub one_dead : (j k : ℕ) → IsFirstDead s ws j → IsFirstDead s ws k → j ≡ k
  one_dead j k first second = elim (cases_lt j k) [
    | inl before ↦ absurd (not_before j k before first second)
    | inr le ↦ elim (cases_lt k j) [
      | inl before ↦ absurd (not_before k j before second first)
      | inr ge ↦ omega (arith, le, ge)
    ]
  ]
