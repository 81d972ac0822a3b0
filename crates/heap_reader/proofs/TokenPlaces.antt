-- Where a token stands.
use Rattle.std.proofs.Common.{◌≡◌, ℕ, ◌<◌, List, length, map, get_or, Some, refl, subst}
use Rattle.std.specs.Prelude.{slice_get}
use Rattle.cyc_lex.specs.declared.token.Token.{Token}
use Rattle.cyc_lex.specs.Placed.{Placed, placed}
use Rattle.cyc_grammar.proofs.Drops.{token_at as found}

pub token_at : (ts : List Token) (ps : List Placed) (k : ℕ) (d : Token) → map placed ts ≡ ps → k < length ts
    → (t : Placed) × (slice_get ps k ≡ Some t) × (t.line ≡ (get_or ts k d).line) × (t.column ≡ (get_or ts k d).column)
token_at ts ps k d e h = (
  placed (get_or ts k d),
  subst (λ (xs : List Placed). slice_get xs k ≡ Some (placed (get_or ts k d))) e
      (found ts k d h),
  refl,
  refl,
)
