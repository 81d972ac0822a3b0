-- The place of the last byte of a kind, byte by byte, and tokens one by one.
use Rattle.std.proofs.Common.{◌≡◌, ℕ, ◌<◌, ◌≤◌, ◌+◌, Bool, true, false, not, ◌&&◌, List, ◌∷◌, Option, Some, length}
use Rattle.std.proofs.Common.{ap, drop, get_or, map}
use Rattle.std.proofs.lemmas.List.{drop_more, drop_all}
use Rattle.std.specs.Prelude.{IfSome, ◌==◌, if◌then◌else◌}
use Rattle.std.specs.List.{list_any}
use Rattle.cyc_lex.specs.declared.token.Token.{Token}
use Rattle.cyc_lex.specs.Placed.{Placed, placed}
use Rattle.frames.specs.Questions.{comment_after, last_after, last_place}

pub one_passed : (kind : ℕ) (comment : Bool) (place : ℕ) (last : Option ℕ) (text : List ℕ) → place < length text
    → last_place kind comment place last (drop place text)
    ≡ last_place kind (comment_after comment (get_or text place 0)) (place + 1)
    (last_after kind comment place last (get_or text place 0)) (drop (place + 1) text)
unfolding last_place
one_passed kind comment place last text h = ap (last_place kind comment place last) (drop_more text place 0 h)

pub all_passed : (kind : ℕ) (comment : Bool) (place : ℕ) (last : Option ℕ) (text : List ℕ) → length text ≤ place
    → last_place kind comment place last (drop place text) ≡ last
unfolding last_place
all_passed kind comment place last text h = ap (last_place kind comment place last) (drop_all place text h)

pub last_within : (kind : ℕ) (comment : Bool) (place n : ℕ) (last : Option ℕ) (b : ℕ) → place < n
    → IfSome last (λ k. k < n) → IfSome (last_after kind comment place last b) (λ k. k < n)
last_within kind comment place n last b below h = pick (not comment && (b == kind))
  where
    pick : (c : Bool) → IfSome (if c then Some place else last) (λ k. k < n)
    pick true = below
    pick false = h

pub token_passed : (f : Placed → Bool) (tokens : List Token) (i : ℕ) (d : Token) → i < length tokens
    → list_any f (map placed (drop i tokens))
    ≡ list_any f (placed (get_or tokens i d) ∷ map placed (drop (i + 1) tokens))
token_passed f tokens i d h = ap (λ xs. list_any f (map placed xs)) (drop_more tokens i d h)
