-- From token to token through a text.
use Rattle.std.proofs.Common.{◌≡◌, ℕ, ◌<◌, ◌≤◌, arith, map, length-append, Bool, true, false, ◌||◌, refl, List, [], ◌∷◌}
use Rattle.std.proofs.Common.{◌++◌, length, Some, None, Option, Ok, sym, ap, subst, ◌∙◌}
use Rattle.std.specs.List.{list_any}
use Rattle.std.specs.Str.{chars, encode_utf8_all, IsUtf8}
use Rattle.std.proofs.lemmas.List.{append-nil}
use Rattle.std.proofs.lemmas.Str.{encodes-chars, encodes-append}
use Rattle.cyc_lex.specs.declared.token.Token.{Token}
use Rattle.cyc_lex.specs.Placed.{Placed, placed}
use Rattle.piecewise_lex.specs.declared.taking.Taken.{Taken}
use Rattle.cyc_lex.proofs.BoolParts.{and-parts}
use Rattle.cyc_lex.specs.Word.{word, word_of, is_lexeme, are_lexemes}
use Rattle.piecewise_lex.specs.Feeding.{taken_chars, held_chars}
use Rattle.piecewise_lex.proofs.Extending.{taken-and-held}
use Rattle.piecewise_lex.specs.Taking.{Reading, reading, skipped, tokens_in, held_in, place_in, comment_in, HasTaken}
use Rattle.piecewise_lex.specs.Taking.{Waits, listed, IsNearer}
use Rattle.piecewise_lex.proofs.TakingLaws.{taken-more, taken-all}

held-few : (k : ℕ) (cs : List ℕ) → length (encode_utf8_all (held_chars k cs)) ≤ length (encode_utf8_all cs)
held-few k cs =
    omega (
      arith,
      ap (λ (x : List ℕ). length (encode_utf8_all x)) (taken-and-held k cs),
      ap length (encodes-append (taken_chars k cs) (held_chars k cs)),
      length-append (encode_utf8_all (taken_chars k cs)) (encode_utf8_all (held_chars k cs)),
    )

abbrev after : Taken → Reading
after t = reading t.place t.comment t.rest.now

module _ (a b : Reading) (text : List ℕ) (t : Taken) (xs : List Placed) (h : HasTaken a xs b)
    (step : HasTaken b (listed t.token) (after t)) (nearer : IsNearer text t t.token) where
  -- one more token
  pub one-more : (token : Token) → t.token ≡ Some token → HasTaken a (xs ++ placed token ∷ []) (after t)
  one-more token is = subst (λ (o : Option Token). HasTaken a (xs ++ listed o) (after t)) is
      (taken-more a b (after t) xs (listed t.token) h step)

  pub lexeme-one : (token : Token) → t.token ≡ Some token → is_lexeme (word token) ≡ true
  lexeme-one token is = (subst (IsNearer text t) is nearer).3

  pub fewer-bytes-left : (token : Token) → t.token ≡ Some token
      → length t.rest.now < length (encode_utf8_all (chars text))
  fewer-bytes-left token is = (subst (IsNearer text t) is nearer).4

  -- no more
  pub none-left : t.token ≡ None → HasTaken a xs (after t)
  none-left is = subst (λ (ys : List Placed). HasTaken a ys (after t)) (append-nil xs)
      (subst (λ (o : Option Token). HasTaken a (xs ++ listed o) (after t)) is
      (taken-more a b (after t) xs (listed t.token) h step))

  pub all-wait : t.token ≡ None → Waits (after t)
  all-wait is = subst (IsNearer text t) is nearer

  pub none-more-left : IsUtf8 t.rest.now → t.token ≡ None → length t.rest.now ≤ length (encode_utf8_all b.chars)
  none-more-left utf8 is =
      let w = all-wait is in
      omega (
        arith,
        ap length (sym (encodes-chars t.rest.now utf8)),
        ap (λ (cs : List ℕ). length (encode_utf8_all cs)) (sym w.held ∙ step.held),
        held-few (skipped b) b.chars,
      )

pub record IsEnd (a : Reading) (xs : List Placed) (t : Taken) : Type 0 where
  pub tokens : tokens_in a ≡ Ok xs
  pub place : t.place ≡ place_in a
  pub comment : t.comment ≡ comment_in a
  pub waits : t.rest.now ≡ encode_utf8_all (held_in a)

-- where no token is left, all that does not wait was taken
pub at-end : (a : Reading) (p : Reading) (text : List ℕ) (t : Taken) (xs : List Placed) → HasTaken a xs p
    → HasTaken p (listed t.token) (after t) → IsNearer text t t.token → IsUtf8 t.rest.now → t.token ≡ None
    → IsEnd a xs t
at-end a p text t xs h step nearer utf8 is =
    let taken = none-left a p text t xs h step nearer is in
    let w = all-wait a p text t xs h step nearer is in
    record {
      tokens = taken-all a (after t) xs taken w;
      place = sym w.place ∙ taken.place;
      comment = sym w.comment ∙ taken.comment;
      waits = sym (encodes-chars t.rest.now utf8) ∙ ap encode_utf8_all (sym w.held ∙ taken.held);
    }

-- one more token that is a lexeme
pub lexemes-more : (xs : List Placed) (x : Placed) → are_lexemes (map word_of xs) ≡ true → is_lexeme (word_of x) ≡ true
    → are_lexemes (map word_of (xs ++ x ∷ [])) ≡ true
lexemes-more [] x h k = rw k refl
lexemes-more (y ∷ ys) x h k = let t = and-parts (is_lexeme (word_of y)) (are_lexemes (map word_of ys)) h in
    rw (t.0, lexemes-more ys x t.1 k) refl

-- one more token that is no ';'
pub none-more : (p : Placed → Bool) (xs : List Placed) (x : Placed) → list_any p xs ≡ false → p x ≡ false
    → list_any p (xs ++ x ∷ []) ≡ false
none-more p [] x h k = rw k refl
none-more p (y ∷ ys) x h k = let t = or-false (p y) (list_any p ys) h in rw t.0 (none-more p ys x t.1 k)
  where
    or-false : (a b : Bool) → (a || b) ≡ false → (a ≡ false) × (b ≡ false)
    or-false true b h = absurd cc
    or-false false b h = (refl, h)
