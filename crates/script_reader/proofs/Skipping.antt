-- How far the pieces of a text go.
use Rattle.std.proofs.Common.{◌≡◌, ◌∙◌, ◌<◌, ◌≤◌, ◌+◌, ap, sym, refl, ℕ, zero, suc, List, [], ◌∷◌, length, drop, get_or}
use Rattle.std.proofs.Common.{arith, add-zero, add-one}
use Rattle.std.proofs.Math.Seq.{drop-cons}
use Rattle.std.proofs.Math.ListN.{drop_of_length-le}
use Rattle.std.proofs.lemmas.List.{drop-drop, length-drop}
use Rattle.std.specs.Prelude.{Option, Some, None}
use Rattle.script_reader.specs.declared.trees.kinds.TokenKind.{TokenKind}
use Rattle.script_reader.specs.declared.trees.kinds.Piece.{Piece}
use Rattle.script_reader.specs.declared.trees.kinds.Piece.TheVariants.{Gap, Token, Stray}
use Rattle.script_reader.specs.Pieces.{piece_at, piece_of}
use Rattle.script_reader.specs.Tokens.{Placed, stray_from, stray_or, tokens_from, with_piece}

-- the bytes of a piece are passed over
pub stray-skip : (at k : ℕ) (bs : List ℕ) → k ≤ length bs → stray_from at k bs ≡ stray_from (at + k) 0 (drop k bs)
unfolding stray_from
stray-skip at zero bs h = rw (add-zero at) refl
stray-skip at (suc k) [] h = absurd (omega (arith, h))
stray-skip at (suc k) (b ∷ bs) h =
    stray-skip (at + 1) k bs (omega (arith, h)) ∙ ap (λ n. stray_from n 0 (drop k bs))
    (let e : at + 1 + k ≡ at + suc k = omega arith in e)

pub tokens-skip : (at k : ℕ) (bs : List ℕ) → k ≤ length bs → tokens_from at k bs ≡ tokens_from (at + k) 0 (drop k bs)
unfolding tokens_from
tokens-skip at zero bs h = rw (add-zero at) refl
tokens-skip at (suc k) [] h = absurd (omega (arith, h))
tokens-skip at (suc k) (b ∷ bs) h =
    tokens-skip (at + 1) k bs (omega (arith, h)) ∙ ap (λ n. tokens_from n 0 (drop k bs))
    (let e : at + 1 + k ≡ at + suc k = omega arith in e)

passed : (p : Piece) (at : ℕ) (others : Option ℕ) → (p ≡ Stray → ⊥) → stray_or p at others ≡ others
passed Gap at others other = refl
passed (Token kind) at others other = refl
passed Stray at others other = absurd (other refl)

-- the byte at i is one of the rest
pub rest-is : (bytes : List ℕ) (i : ℕ) → i < length bytes → drop i bytes ≡ get_or bytes i 0 ∷ drop (i + 1) bytes
rest-is bytes i h = drop-cons bytes i 0 h ∙ ap (λ k. get_or bytes i 0 ∷ drop k bytes) (sym (add-one i))

rest-from : (bytes : List ℕ) (i n : ℕ) → drop n (drop (i + 1) bytes) ≡ drop (i + (1 + n)) bytes
rest-from bytes i n = drop-drop n (i + 1) bytes ∙ ap (λ k. drop k bytes)
    (let e : i + 1 + n ≡ i + (1 + n) = omega arith in e)

module _ (bytes : List ℕ) (i : ℕ) (r : Piece × ℕ) (within : i < length bytes) (is : r ≡ piece_of (drop i bytes))
    (fits : i + 1 + r.1 ≤ length bytes) where
  here : r ≡ piece_at (get_or bytes i 0) (drop (i + 1) bytes)
  here = is ∙ ap piece_of (rest-is bytes i within)

  room : r.1 ≤ length (drop (i + 1) bytes)
  room = let e = length-drop (i + 1) bytes in omega (arith, e, fits)

  stray-here : stray_from i 0 (drop i bytes) ≡ stray_or r.0 i
      (stray_from (i + (1 + r.1)) 0 (drop (i + (1 + r.1)) bytes))
  unfolding stray_from
  stray-here =
      ap (stray_from i 0) (rest-is bytes i within)
      ∙ ap (λ (x : Piece × ℕ). stray_or x.0 i (stray_from (i + 1) x.1 (drop (i + 1) bytes))) (sym here)
      ∙ ap (stray_or r.0 i) (stray-skip (i + 1) r.1 (drop (i + 1) bytes) room
      ∙ ap (λ bs. stray_from (i + 1 + r.1) 0 bs) (rest-from bytes i r.1)
      ∙ ap (λ k. stray_from k 0 (drop (i + (1 + r.1)) bytes)) (let e : i + 1 + r.1 ≡ i + (1 + r.1) = omega arith in e))

  -- a piece that is no stray is passed over
  pub stray-later : (r.0 ≡ Stray → ⊥) → stray_from i 0 (drop i bytes)
      ≡ stray_from (i + (1 + r.1)) 0 (drop (i + (1 + r.1)) bytes)
  stray-later other = stray-here ∙ passed r.0 i _ other

  -- a stray is found
  pub stray-found : r.0 ≡ Stray → stray_from i 0 (drop i bytes) ≡ Some i
  stray-found stray = stray-here ∙ ap (λ q. stray_or q i (stray_from (i + (1 + r.1)) 0 (drop (i + (1 + r.1)) bytes)))
      stray

-- at the end there is none
pub stray-ended : (bytes : List ℕ) (i : ℕ) → length bytes ≤ i → stray_from i 0 (drop i bytes) ≡ None
unfolding stray_from
stray-ended bytes i h = ap (stray_from i 0) (drop_of_length-le bytes h)

-- ---- tokens

module _ (bytes : List ℕ) (i : ℕ) (r : Piece × ℕ) (within : i < length bytes) (is : r ≡ piece_of (drop i bytes))
    (fits : i + 1 + r.1 ≤ length bytes) where
  -- the tokens from here on
  pub tokens-here : tokens_from i 0 (drop i bytes)
      ≡ with_piece r.0 i r.1 (tokens_from (i + 1 + r.1) 0 (drop (i + 1 + r.1) bytes))
  unfolding tokens_from
  tokens-here =
      let here : r ≡ piece_at (get_or bytes i 0) (drop (i + 1) bytes) = is ∙ ap piece_of (rest-is bytes i within) in
      let e = length-drop (i + 1) bytes in
      let room : r.1 ≤ length (drop (i + 1) bytes) = omega (arith, e, fits) in
      ap (tokens_from i 0) (rest-is bytes i within)
      ∙ ap (λ (x : Piece × ℕ). with_piece x.0 i x.1 (tokens_from (i + 1) x.1 (drop (i + 1) bytes))) (sym here)
      ∙ ap (with_piece r.0 i r.1) (tokens-skip (i + 1) r.1 (drop (i + 1) bytes) room
      ∙ ap (λ bs. tokens_from (i + 1 + r.1) 0 bs) (drop-drop r.1 (i + 1) bytes))

pub tokens-ended : (bytes : List ℕ) (i : ℕ) → length bytes ≤ i → tokens_from i 0 (drop i bytes) ≡ []
unfolding tokens_from
tokens-ended bytes i h = ap (tokens_from i 0) (drop_of_length-le bytes h)

-- what is no token is passed over
pub no_token : (p : Piece) (i n : ℕ) (others : List Placed) → ((kind : TokenKind) → p ≡ Token kind → ⊥)
    → with_piece p i n others ≡ others
no_token Gap i n others other = refl
no_token Stray i n others other = refl
no_token (Token kind) i n others other = absurd (other kind refl)
