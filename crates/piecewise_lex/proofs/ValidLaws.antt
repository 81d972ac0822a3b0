-- Texts at the front of bytes.
use Rattle.std.proofs.Common.{◌≡◌, ℕ, ◌+◌, Bool, true, false, eqb-true, false-eqb, length-drop, List, [], length, take}
use Rattle.std.proofs.Common.{drop, refl, sym, ap, ◌∙◌, arith}
use Rattle.std.specs.Prelude.{is_none, not, ◌==◌}
use Rattle.std.proofs.lemmas.Bool.{eq-eqb, ne_eqb}
use Rattle.std.specs.Str.{chars, IsUtf8}
use Rattle.std.specs.Str.Lossy.{utf8_valid_len, utf8_error_len}
use Rattle.std.proofs.lemmas.List.{take_all, length-take-le, drop_all}
use Rattle.std.proofs.lemmas.Str.{utf8_valid_len-IsUtf8, utf8_valid_len_le}
use Rattle.cyc_lex.specs.declared.place.Place.{Place}
use Rattle.cyc_lex.specs.Lexing.{HasRoom}
use Rattle.piecewise_lex.specs.Feeding.{valid_chars, after_valid, is_cut}
use Rattle.piecewise_lex.proofs.Utf8Cuts.{error-nil}

pub chars-front : (bytes text : List ℕ) (n : ℕ) → n ≡ utf8_valid_len bytes → text ≡ take n bytes
    → chars text ≡ valid_chars bytes
unfolding valid_chars
chars-front bytes text n is same = ap chars same ∙ ap (λ k. chars (take k bytes)) is

pub chars-whole : (bytes text : List ℕ) → text ≡ bytes → IsUtf8 bytes → chars text ≡ valid_chars bytes
chars-whole bytes text same utf8 = chars-front bytes text (length bytes) (sym (utf8_valid_len-IsUtf8 bytes utf8))
    (same ∙ sym (take_all (length bytes) bytes (omega arith)))

pub tail-whole : (bytes : List ℕ) → IsUtf8 bytes → [] ≡ after_valid bytes
tail-whole bytes utf8 = sym (ap (λ n. drop n bytes) (utf8_valid_len-IsUtf8 bytes utf8)
    ∙ drop_all (length bytes) bytes (omega arith))

pub cut-whole : (bytes : List ℕ) → IsUtf8 bytes → is_cut bytes ≡ true
cut-whole bytes utf8 = ap (λ (w : List ℕ). is_none (utf8_error_len w)) (sym (tail-whole bytes utf8))
    ∙ ap is_none error-nil

pub size-front : (bytes text : List ℕ) (n : ℕ) → n ≡ utf8_valid_len bytes → text ≡ take n bytes
    → length text ≡ utf8_valid_len bytes
size-front bytes text n is same = ap length same ∙ ap (λ k. length (take k bytes)) is
    ∙ length-take-le (utf8_valid_len bytes) bytes (utf8_valid_len_le bytes)

pub not-flip : (a b : Bool) → a ≡ not b → b ≡ not a
not-flip a true h = rw h refl
not-flip a false h = rw h refl

pub room-front : (p : Place) (bytes text : List ℕ) → length text ≡ utf8_valid_len bytes → HasRoom p (length bytes)
    → HasRoom p (length text)
room-front p bytes text size room = let fits = utf8_valid_len_le bytes in
    record { offset = omega (arith, room.offset, size, fits); line = room.line; column = room.column }

-- no byte is left exactly where all of them are characters
pub whole-tail : (bytes tail : List ℕ) → tail ≡ after_valid bytes
    → (length tail == 0) ≡ (utf8_valid_len bytes == length bytes)
whole-tail bytes tail same = by (length tail == 0) refl
  where
    size : length tail + utf8_valid_len bytes ≡ length bytes
    size = omega (arith, ap length same, length-drop (utf8_valid_len bytes) bytes, utf8_valid_len_le bytes)

    by : (b : Bool) → (length tail == 0) ≡ b → b ≡ (utf8_valid_len bytes == length bytes)
    by true h = let none = eqb-true (length tail) 0 h in
        sym (eq-eqb (utf8_valid_len bytes) (length bytes) (omega (arith, none, size)))
    by false h = sym (ne_eqb (utf8_valid_len bytes) (length bytes)
        (λ e. false-eqb (length tail) 0 (sym h) (omega (arith, e, size))))
