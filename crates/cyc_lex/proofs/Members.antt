-- What holds of each member of a list.
use Rattle.std.proofs.Common.{◌≡◌, ℕ, true, List, [], ◌∷◌, sym, subst, eqb-true, inl, inr}
use Rattle.std.specs.Prelude.{◌==◌}
use Rattle.std.specs.List.{list_any}
use Rattle.cyc_basics.specs.Words.{Each}
use Rattle.cyc_lex.proofs.BoolParts.{or-parts}

-- so it holds of a number that is among them
pub one-of : (P : ℕ → Type 0) (ss : List ℕ) (c : ℕ) → Each P ss → list_any (λ s. c == s) ss ≡ true → P c
one-of P [] c all h = absurd cc
one-of P (s ∷ ss) c all h = elim (or-parts (c == s) (list_any (λ s. c == s) ss) h) [
  | inl p ↦ subst P (sym (eqb-true c s p)) all.0
  | inr p ↦ one-of P ss c all.1 p
]
