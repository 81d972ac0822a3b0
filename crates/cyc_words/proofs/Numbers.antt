-- Numbers of arguments: the one that clap reads is the one that the text stands for, and what passed the parser of a
-- range is in the range.
use Rattle.std.proofs.Common.{◌≡◌, ◌∙◌, ℕ, zero, suc, ◌<◌, ◌≤◌, ◌^◌, Bool, true, false, List, [], ◌∷◌, Option, Some}
use Rattle.std.proofs.Common.{None, refl, ap, subst, arith}
use Rattle.std.specs.Prelude.{◌==◌, cond, find, pos, Result, Ok, Err, IfSome, option_and_then}
use Rattle.std.specs.Str.{bytes_eq}
use Rattle.std.specs.Str.Parse.{IsNumeral, ParsesUnsigned, digits_value, starts_with_minus, without_leading_plus}
use Rattle.std.proofs.lemmas.Int.{ints}
use Rattle.clap.specs.Facts.{parser_of_value}
use Rattle.clap.specs.Lexer.{without_minus}
use Rattle.clap.specs.Takes.{value_passes}
use Rattle.clap.specs.ValueTests.{accepts, is_unsigned_in}
use Rattle.clap.specs.Values.{Accepts, read_as, reading_of}
use Rattle.clap.specs.Walk.{Row, Rule, has_row, one_of, reading_by}
use Rattle.clap.specs.Words.{ReadsOne, Text}
use Rattle.clap.specs.declared.builder.value_parser.ValueParser.{ValueParser}
use Rattle.clap.specs.declared.builder.value_parser.ValueParser.TheVariants.{Signed, Unsigned}
use Rattle.clap.proofs.ValueTestLemmas.{accepts-Accepts, Accepts-accepts}
use Rattle.cyc_words.specs.Words.{argument_in, number_in}
use Rattle.cyc_words.proofs.Rows.{HasPassed, IsSound}

-- a text of a number in a range
pub record IsNumberIn (low high : ℕ) (text : Text) (n : ℕ) : Type 0 where
  pub numeral : IsNumeral 10 (without_leading_plus text)
  pub value : digits_value 10 (without_leading_plus text) ≡ n
  pub least : low ≤ n
  pub most : n ≤ high

-- what has a number in a range is such a text
number_in-Some : (low high n : ℕ) (text : Text) → number_in low high text ≡ Some n → IsNumberIn low high text n
number_in-Some low high n text is = go (is_unsigned_in low high text) refl is
  where
    go : (b : Bool) → is_unsigned_in low high text ≡ b
        → cond b (Some (digits_value 10 (without_leading_plus text))) None ≡ Some n → IsNumberIn low high text n
    go true test found =
        let passes = accepts-Accepts false (Unsigned low high) text test in
        let value : digits_value 10 (without_leading_plus text) ≡ n = cc in
        record { numeral = passes.0; value = value; least = omega (arith, passes.2); most = omega (arith, passes.3) }
    go false test found = cc

pub argument_in-range : (low high : ℕ) (id : Text) (rows : List Row)
    → IfSome (argument_in low high id rows) (λ n. (low ≤ n) × (n ≤ high))
argument_in-range low high id rows = go (argument_in low high id rows) refl
  where
    read : (text : Option Text) (n : ℕ) → option_and_then (number_in low high) text ≡ Some n → (low ≤ n) × (n ≤ high)
    read None n e = cc
    read (Some text) n e = let it = number_in-Some low high n text e in (it.least, it.most)

    go : (number : Option ℕ) → argument_in low high id rows ≡ number → IfSome number (λ n. (low ≤ n) × (n ≤ high))
    go None e = tt
    go (Some n) e = read (one_of id rows) n e

-- what `get_one` reads of a text that has a number in some range is that number
pub number-read : {E : Type 0} (G : List ℕ → Result ℕ E → Type 0) (low high n : ℕ) (text : Option Text)
    (read : Option ℕ) → ((t : List ℕ) (x : Result ℕ E) → G t x → ParsesUnsigned 32 10 t x) → high < 2 ^ 32
    → ((t : List ℕ) → text ≡ Some t → ReadsOne G t read) → option_and_then (number_in low high) text ≡ Some n
    → read ≡ Some n
number-read G low high n None read parses fits some is = cc
number-read G low high n (Some t) (Some m) parses fits some is =
    let it = number_in-Some low high n t is in
    let parsed = parses t (Ok m) (some t refl) in
    ap (λ k. Some k) (parsed.1 ∙ it.value)
number-read G low high n (Some t) None parses fits some is =
    let it = number_in-Some low high n t is in
    let failed = some t refl in
    absurd (parses t (Err failed.0) failed.1 (it.numeral, omega (arith, it.value, it.most)))

-- ---- the number in a sound list of rows

row_found : (id : Text) (rows : List Row) → has_row id rows ≡ true
    → (r : Row) × (find (λ x. bytes_eq x.id id) rows ≡ Some r)
row_found id [] h = cc
row_found id (r ∷ rs) h = go (bytes_eq r.id id) refl (row_found id rs)
  where
    go : (b : Bool) → bytes_eq r.id id ≡ b → (has_row id rs ≡ true
        → (x : Row) × (find (λ y. bytes_eq y.id id) rs ≡ Some x))
        → (x : Row) × (find (λ y. bytes_eq y.id id) (r ∷ rs) ≡ Some x)
    go true e ih = (r, rw e refl)
    go false e ih =
        let rest : has_row id rs ≡ true = rw e at h in
        let it = ih rest in
        (it.0, rw e it.1)

found_passed : (a : Rule) (rows : List Row) (r : Row) → IsSound a rows → find (λ x. bytes_eq x.id a.id) rows ≡ Some r
    → HasPassed a r
found_passed a [] r sound e = cc
found_passed a (x ∷ xs) r sound e = go (bytes_eq x.id a.id) refl
    (found_passed a xs r (λ k d lt. sound (suc k) d (omega arith)))
  where
    go : (b : Bool) → bytes_eq x.id a.id ≡ b → (find (λ y. bytes_eq y.id a.id) xs ≡ Some r → HasPassed a r)
        → HasPassed a r
    go true is ih =
        let same : Some x ≡ Some r = rw is at e in
        let here : x ≡ r = cc in
        subst (HasPassed a) here (sound zero x (omega arith) is)
    go false is ih = ih (rw is at e)

-- the text that `get_one` reads of the argument
text_read : (a : Rule) (rows : List Row) → IsSound a rows → has_row a.id rows ≡ true
    → (v : Text) × (one_of a.id rows ≡ Some (read_as (reading_by a) v)) × (value_passes a v ≡ true)
text_read a rows sound there =
    let r = row_found a.id rows there in
    let passed = found_passed a rows r.0 sound r.1 in
    (passed.text, rw (r.1, passed.values, passed.reading) refl, passed.passes)

no_minus : (t : Text) → starts_with_minus t ≡ false → without_minus t ≡ t
no_minus [] h = refl
no_minus (x ∷ xs) h = let test : (x == 45) ≡ false = h in rw test refl

signed_number : (ignore_case : Bool) (low high : ℕ) (t : Text) → 1 ≤ low → high < 2 ^ 64
    → accepts ignore_case (Signed (pos low) (pos high)) t ≡ true
    → (n : ℕ) × (number_in low high (without_minus t) ≡ Some n)
signed_number ignore_case low high t positive small is = go (starts_with_minus t) refl
  where
    h : Accepts ignore_case (Signed (pos low) (pos high)) t
    h = accepts-Accepts ignore_case (Signed (pos low) (pos high)) t is

    go : (b : Bool) → starts_with_minus t ≡ b → (n : ℕ) × (number_in low high (without_minus t) ≡ Some n)
    go true minus =
        let low_ok = rw minus at h.2 in
        absurd (omega (arith, ints))
    go false minus =
        let numeral : IsNumeral 10 (without_leading_plus t) = rw minus at h.0 in
        let low_ok = rw minus at h.2 in
        let high_ok = rw minus at h.3 in
        let test : is_unsigned_in low high t ≡ true = Accepts-accepts ignore_case (Unsigned low high) t
        (numeral, omega (arith, ints), omega (arith, ints), omega (arith, ints)) in
        (digits_value 10 (without_leading_plus t), rw (no_minus t minus, test) refl)

-- so the argument of a command has a number in its range
pub number_there : (a : Rule) (low high : ℕ) (rows : List Row) → a.parser ≡ Some (Signed (pos low) (pos high)) → 1 ≤ low
    → high < 2 ^ 64 → IsSound a rows → has_row a.id rows ≡ true → (n : ℕ) × (argument_in low high a.id rows ≡ Some n)
number_there a low high rows parser positive small sound there =
    let read = text_read a rows sound there in
    let accepted : accepts a.ignore_case (Signed (pos low) (pos high)) read.0
    ≡ true = subst (λ (p : Option ValueParser). accepts a.ignore_case (parser_of_value p) read.0 ≡ true)
    parser read.2 in
    let text : one_of a.id rows ≡ Some (without_minus read.0) = subst
    (λ (p : Option ValueParser). one_of a.id rows ≡ Some (read_as (reading_of (parser_of_value p)) read.0))
    parser read.1 in
    let number = signed_number a.ignore_case low high read.0 positive small accepted in
    (number.0, rw text number.1)
