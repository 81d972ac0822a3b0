-- How far a text goes that was read byte by byte.
use Rattle.std.proofs.Common.{◌≡◌, ◌∙◌, ◌<◌, ◌+◌, ◌==◌, ap, sym, refl, ℕ, suc, Bool, true, false, List, ◌∷◌, length}
use Rattle.std.proofs.Common.{drop, get_or, not, arith, add-one}
use Rattle.std.proofs.Math.Seq.{drop-cons, drop-length}
use Rattle.std.proofs.lemmas.Bool.{ne_eqb}
use Rattle.script_reader.specs.Pieces.{text_len}

-- so many bytes were passed, and as many more come as the rest says
abbrev pub Passed : List ℕ → ℕ → Bool → Type 0
Passed bytes i closing = i + text_len closing (drop i bytes) ≡ text_len false bytes

quoted : (closing : Bool) (b : ℕ) (bs : List ℕ) → (b == 34) ≡ true
    → text_len closing (b ∷ bs) ≡ suc (text_len (not closing) bs)
unfolding text_len
quoted true b bs is = rw is refl
quoted false b bs is = rw is refl

other : (b : ℕ) (bs : List ℕ) → (b == 34) ≡ false → text_len false (b ∷ bs) ≡ suc (text_len false bs)
unfolding text_len
other b bs is = rw is refl

last : (b : ℕ) (bs : List ℕ) → (b == 34) ≡ false → text_len true (b ∷ bs) ≡ 0
unfolding text_len
last b bs is = rw is refl

-- the byte at i is one of the rest
rest-is : (bytes : List ℕ) (i : ℕ) → i < length bytes → drop i bytes ≡ get_or bytes i 0 ∷ drop (i + 1) bytes
rest-is bytes i h = drop-cons bytes i 0 h ∙ ap (λ k. get_or bytes i 0 ∷ drop k bytes) (sym (add-one i))

pub passed_quote : (bytes : List ℕ) (i : ℕ) (closing : Bool) → i < length bytes → get_or bytes i 0 ≡ 34
    → Passed bytes i closing → Passed bytes (i + 1) (not closing)
passed_quote bytes i closing h is passed =
    let e = ap (text_len closing) (rest-is bytes i h)
    ∙ quoted closing (get_or bytes i 0) (drop (i + 1) bytes) (ap (λ b. b == 34) is) in
    omega (arith, e, passed)

pub passed_other : (bytes : List ℕ) (i : ℕ) → i < length bytes → (get_or bytes i 0 ≡ 34 → ⊥) → Passed bytes i false
    → Passed bytes (i + 1) false
passed_other bytes i h is passed =
    let e = ap (text_len false) (rest-is bytes i h) ∙ other (get_or bytes i 0) (drop (i + 1) bytes) (ne_eqb _ 34 is) in
    omega (arith, e, passed)

pub passed_last : (bytes : List ℕ) (i : ℕ) → i < length bytes → (get_or bytes i 0 ≡ 34 → ⊥) → Passed bytes i true
    → i ≡ text_len false bytes
passed_last bytes i h is passed =
    let e = ap (text_len true) (rest-is bytes i h) ∙ last (get_or bytes i 0) (drop (i + 1) bytes) (ne_eqb _ 34 is) in
    omega (arith, e, passed)

pub passed_end_closing : (bytes : List ℕ) (i : ℕ) → i ≡ length bytes → Passed bytes i true
    → length bytes ≡ text_len false bytes
unfolding text_len
passed_end_closing bytes i is passed =
    let e = ap (λ k. text_len true (drop k bytes)) is ∙ ap (text_len true) (drop-length bytes) in
    omega (arith, e, passed)

pub passed_end : (bytes : List ℕ) (i : ℕ) → i ≡ length bytes → Passed bytes i false
    → length bytes + 1 ≡ text_len false bytes
unfolding text_len
passed_end bytes i is passed =
    let e = ap (λ k. text_len false (drop k bytes)) is ∙ ap (text_len false) (drop-length bytes) in
    omega (arith, e, passed)
