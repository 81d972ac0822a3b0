-- The names of the ring's predicates: they are names of the format, and apart.
use Rattle.std.proofs.Common.{◌≡◌, ℕ, ◌<◌, ◌≤◌, List, [], ◌∷◌, arith, true, false, length, refl, ap, sym, ◌∙◌}
use Rattle.std.specs.Prelude.{nat_le, nat_eq}
use Rattle.std.specs.Str.{is_utf8, chars, encode_utf8_all, all_scalars, bytes_eq}
use Rattle.std.specs.Char.{is_ascii_digit, is_ascii_alphanumeric}
use Rattle.std.specs.List.{list_all, list_any}
use Rattle.std.specs.Fmt.{decimal}
use Rattle.std.proofs.lemmas.Bool.{ne_eqb, le-leb, false_from_ne_true}
use Rattle.std.proofs.lemmas.Bool.Decides.{nat_tests}
use Rattle.std.proofs.lemmas.Fmt.{digits_decimal, length-decimal-le, decimal_injective}
use Rattle.std.proofs.lemmas.Slice.Eq.{bytes_eq-Decides}
use Rattle.std.proofs.lemmas.Str.{is_utf8-from_IsUtf8, chars-encodes, encode_ascii}
use Rattle.unicode_ident.specs.Ident.{is_xid_continue}
use Rattle.unicode_ident.proofs.IdentLemmas.{is_xid_continue-ascii, is_xid_start-ascii}
use Rattle.cyc_lex.specs.Word.{is_identifier, is_name_text}
use Rattle.cyc_lex.proofs.Letters.{letters-name}
use Rattle.cyc_lex.proofs.BoolParts.{and-parts}
use Rattle.cyc_grammar.specs.Classes.{is_free_name}
use Rattle.cyc_grammar.proofs.ClassLaws.{digit_numerals}
use Rattle.heap_syntax.specs.Words.{reserved}
use Rattle.cyc_lex.proofs.Lexemes.{digits-encode, digits-scalars}

digit_small : (c : ℕ) → is_ascii_digit c ≡ true → c ≤ 57
digit_small c h = grind (arith, nat_tests)

digit_both : (c : ℕ) → is_ascii_digit c ≡ true → is_ascii_alphanumeric c ≡ true
digit_both c h = grind (arith, nat_tests)

digit_continues : (c : ℕ) → is_ascii_digit c ≡ true → is_xid_continue c ≡ true
digit_continues c h = is_xid_continue-ascii c (let s = digit_small c h in omega (arith, s)) ∙ rw (digit_both c h) refl

digits_continue : (cs : List ℕ) → list_all is_ascii_digit cs ≡ true → list_all is_xid_continue cs ≡ true
digits_continue [] h = refl
digits_continue (c ∷ cs) h = let p = and-parts (is_ascii_digit c) (list_all is_ascii_digit cs) h in
    rw (digit_continues c p.0, digits_continue cs p.1) refl

-- `p` and up to 63 digits
digits_name : (ds : List ℕ) → list_all is_ascii_digit ds ≡ true → length ds ≤ 63 → is_name_text (112 ∷ ds) ≡ true
unfolding is_name_text
digits_name ds h few =
    let good : all_scalars (112 ∷ ds) ≡ true = rw (digits-scalars ds h) refl in
    let same : encode_utf8_all (112 ∷ ds) ≡ 112 ∷ ds = rw (encode_ascii 112 (omega arith), digits-encode ds h) refl in
    let utf8 : is_utf8 (112 ∷ ds) ≡ true = is_utf8-from_IsUtf8 (112 ∷ ds) (112 ∷ ds, (good, same)) in
    let characters : chars (112 ∷ ds) ≡ 112 ∷ ds = ap chars (sym same) ∙ chars-encodes (112 ∷ ds) good in
    let id : is_identifier (112 ∷ ds) ≡ true = rw (is_xid_start-ascii 112 (omega arith), digits_continue ds h) refl in
    let short : nat_le (length (112 ∷ ds)) 64 ≡ true = le-leb (length (112 ∷ ds)) 64 (omega arith) in
    rw (utf8, short, characters) id

-- none of the reserved words is `p` and digits
not_reserved : (ds : List ℕ) → list_all is_ascii_digit ds ≡ true → list_any (bytes_eq (112 ∷ ds)) reserved ≡ false
not_reserved [] h = refl
not_reserved (d ∷ ds) h =
    let p = and-parts (is_ascii_digit d) (list_all is_ascii_digit ds) h in
    let s = digit_small d p.0 in
    let other : nat_eq d 114 ≡ false = ne_eqb d 114 (λ e. omega (arith, e, s)) in
    rw other refl

digits_free : (ds : List ℕ) → list_all is_ascii_digit ds ≡ true → length ds ≤ 63
    → is_free_name reserved (112 ∷ ds) ≡ true
unfolding is_free_name
digits_free ds h few = rw (digits_name ds h few, not_reserved ds h) refl

pub p_free : (p : ℕ) → p ≤ 2000 → is_free_name reserved (112 ∷ decimal p) ≡ true
p_free p small =
    let few = length-decimal-le 9 p (omega arith) (omega arith) (omega arith) in
    digits_free (decimal p) (digits_decimal digit_numerals p (omega arith)) (omega (arith, few))

q_name : is_name_text (113 ∷ []) ≡ true
q_name = letters-name (113 ∷ []) refl

pub q_free : is_free_name reserved (113 ∷ []) ≡ true
unfolding is_free_name
q_free = rw q_name refl

-- ---- names apart

pub names_apart : (p r : ℕ) → p < r → r ≤ 2000 → bytes_eq (112 ∷ decimal p) (112 ∷ decimal r) ≡ false
names_apart p r lower small =
    false_from_ne_true (bytes_eq (112 ∷ decimal p) (112 ∷ decimal r)) (λ t. (
    let same : 112 ∷ decimal p ≡ 112 ∷ decimal r = (bytes_eq-Decides (112 ∷ decimal p) (112 ∷ decimal r)).0 t in
    let tails : decimal p ≡ decimal r = ap rest same in
    let numbers = decimal_injective p r (omega arith) (omega arith) tails in
    omega (arith, numbers)))
  where
    rest : List ℕ → List ℕ
    rest [] = []
    rest (d ∷ ds) = ds
