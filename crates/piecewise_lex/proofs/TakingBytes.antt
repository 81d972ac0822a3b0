-- Tokens that were taken off a text are the first, whatever bytes come after it.
use Rattle.std.proofs.Common.{◌≡◌, ℕ, ◌+◌, Bool, List, ◌++◌, length, Ok, Err, refl, sym, ap, ◌∙◌, arith, length-append}
use Rattle.std.specs.Str.{chars, encode_utf8_all, IsUtf8}
use Rattle.std.proofs.lemmas.Str.{encodes-append, encodes-chars}
use Rattle.std.proofs.lemmas.List.{append-nil}
use Rattle.cyc_lex.specs.declared.place.Place.{Place}
use Rattle.cyc_lex.specs.Placed.{Placed}
use Rattle.cyc_lex.specs.Lexing.{pass_all, with_tokens, comment_len}
use Rattle.cyc_lex.proofs.Lexed.{Found, with_tokens-append, with_tokens-ok, with_tokens-err}
use Rattle.piecewise_lex.specs.Feeding.{taken_chars, held_chars, ends_in_comment, tokens_taken, valid_chars}
use Rattle.piecewise_lex.specs.Feeding.{tokens_from, waiting_in, comment_after}
use Rattle.piecewise_lex.specs.Taking.{reading, tokens_in, held_in, place_in, comment_in, HasTaken}
use Rattle.piecewise_lex.proofs.Carrying.{then_tokens}
use Rattle.piecewise_lex.proofs.ValidLaws.{chars-whole, tail-whole, cut-whole}
use Rattle.piecewise_lex.proofs.Extending.{all_chars, more-bytes, waiting-cut, taken-and-held}
use Rattle.cyc_lex.proofs.Pieces.{pass_all-offset}

text-law : (p : Place) (c : Bool) (text more : List ℕ) → IsUtf8 text
    → tokens_from p c (text ++ more) ≡ then_tokens (tokens_in (reading p c text))
    (tokens_from (place_in (reading p c text)) (comment_in (reading p c text))
    (encode_utf8_all (held_in (reading p c text)) ++ more))
unfolding all_chars comment_after
text-law p c text more utf8 =
    let cut = cut-whole text utf8 in
    let all = λ (cs : List ℕ). then_tokens (tokens_taken p (comment_len c cs) cs)
    (tokens_from (pass_all p (taken_chars (comment_len c cs) cs)) (ends_in_comment c (comment_len c cs) cs)
    (encode_utf8_all (held_chars (comment_len c cs) cs) ++ more)) in
    let cs = valid_chars text in
    let waits : waiting_in c text ≡ encode_utf8_all (held_chars (comment_len c cs) cs) = waiting-cut c text cut
    ∙ ap (λ (t : List ℕ). encode_utf8_all (held_chars (comment_len c cs) cs) ++ t) (sym (tail-whole text utf8))
    ∙ append-nil (encode_utf8_all (held_chars (comment_len c cs) cs)) in
    more-bytes c text p more cut
    ∙ ap (λ (w : List ℕ). then_tokens (tokens_taken p (comment_len c cs) cs)
    (tokens_from (pass_all p (taken_chars (comment_len c cs) cs)) (ends_in_comment c (comment_len c cs) cs)
    (w ++ more))) waits
    ∙ sym (ap all (chars-whole text text refl utf8))

with-then : (ts : List Placed) (a r : Found) → with_tokens ts (then_tokens a r) ≡ then_tokens (with_tokens ts a) r
with-then ts (Ok us) r = sym (with_tokens-append ts us r) ∙ ap (λ x. then_tokens x r) (sym (with_tokens-ok ts us))
with-then ts (Err e) r = with_tokens-err ts e ∙ ap (λ x. then_tokens x r) (sym (with_tokens-err ts e))

pub taken-law : (p q : Place) (c d : Bool) (text rest : List ℕ) (ts : List Placed) → IsUtf8 text → IsUtf8 rest
    → HasTaken (reading p c text) ts (reading q d rest) → (more : List ℕ)
    → tokens_from p c (text ++ more) ≡ with_tokens ts (tokens_from q d (rest ++ more))
taken-law p q c d text rest ts utf8 fine h more =
    let old = reading p c text in
    let new = reading q d rest in
    text-law p c text more utf8
    ∙ sym (λ i. then_tokens (h.tokens i) (tokens_from (h.place i) (h.comment i) (encode_utf8_all (h.held i) ++ more)))
    ∙ sym (with-then ts (tokens_in new) (tokens_from (place_in new) (comment_in new)
    (encode_utf8_all (held_in new) ++ more)))
    ∙ ap (with_tokens ts) (sym (text-law q d rest more fine))

-- no byte is lost: those that are taken stand before the place after them, and the others wait
reading-count : (p : Place) (c : Bool) (text : List ℕ) → IsUtf8 text
    → (place_in (reading p c text)).offset + length (encode_utf8_all (held_in (reading p c text)))
    ≡ p.offset + length text
reading-count p c text utf8 =
    let k = comment_len c (chars text) in
    let kept = taken_chars k (chars text) in
    let held = held_chars k (chars text) in
    let far = pass_all-offset p kept in
    let all : length text ≡ length (encode_utf8_all kept) + length (encode_utf8_all held) = ap length
    (sym (encodes-chars text utf8)) ∙ ap (λ (x : List ℕ). length (encode_utf8_all x))
    (sym (taken-and-held k (chars text))) ∙ ap length (encodes-append kept held)
    ∙ length-append (encode_utf8_all kept) (encode_utf8_all held) in
    omega (arith, far.offset, all)

pub taken-count : (p q : Place) (c d : Bool) (text rest : List ℕ) (ts : List Placed) → IsUtf8 text → IsUtf8 rest
    → HasTaken (reading p c text) ts (reading q d rest) → q.offset + length rest ≡ p.offset + length text
taken-count p q c d text rest ts utf8 fine h =
    sym (reading-count q d rest fine) ∙ (λ i. (h.place i).offset + length (encode_utf8_all (h.held i)))
    ∙ reading-count p c text utf8
