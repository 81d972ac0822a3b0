-- Notes, line by line.
use Rattle.std.proofs.Common.{◌≡◌, ℕ, ◌+◌, ◌<◌, ◌^◌, Bool, true, false, cond, not, List, [], ◌∷◌, ◌++◌, length, get_or}
use Rattle.std.proofs.Common.{drop, refl, sym, ap, subst, ◌∙◌, arith, append_assoc, add-one, drop-cons}
use Rattle.std.specs.Prelude.{◌==◌, map, codes, decimal}
use Rattle.std.specs.Str.{chars, encode_utf8_all, all_scalars, IsUtf8}
use lib.Utf8.{scalar, encode}
use Rattle.std.specs.Char.{encode_utf8}
use Rattle.std.specs.List.{list_all, flat_map}
use Rattle.std.proofs.lemmas.Str.{encodes-append, scalars-chars}
use Rattle.std.proofs.lemmas.List.{append-nil, map-id, map_push}
use Rattle.std.proofs.lemmas.List.Concat.{flat_map-append}
use Rattle.std.proofs.lemmas.List.Folds.{list_all-append}
use Rattle.std.specs.Char.{is_ascii_digit}
use Rattle.std.proofs.lemmas.Bool.Decides.{nat_tests}
use Rattle.std.proofs.lemmas.Fmt.{digits_decimal}
use Rattle.cyc_lex.proofs.BoolParts.{and-parts}
use Rattle.cyc_lex.proofs.Lexemes.{digits-scalars, digits-encode}
use Rattle.cyc_grammar.proofs.ClassLaws.{digit_numerals}
use Rattle.solve_top.specs.Notes.{is_one_line, comment_line, AreNotes}
use Rattle.solve_top.specs.declared.explanations.parts.Part.{Part}
use Rattle.solve_top.specs.Lines.{shown, shown_text, part_text, parts_text, IsLine}

-- ---- notes

pub no-notes : AreNotes []
no-notes = record { lines = []; each = refl; spelled = refl }

pub notes-join : (xs ys : List ℕ) → AreNotes xs → AreNotes ys → AreNotes (xs ++ ys)
notes-join xs ys h k = record {
  lines = h.lines ++ k.lines;
  each = list_all-append is_one_line h.lines k.lines ∙ rw (h.each, k.each) refl;
  spelled =
      (λ i. h.spelled i ++ k.spelled i)
      ∙ sym (encodes-append (flat_map comment_line h.lines) (flat_map comment_line k.lines))
      ∙ ap encode_utf8_all (sym (flat_map-append comment_line h.lines k.lines));
}

-- a text that fits on a line, as a note
pub one-note : (text : List ℕ) → IsLine text → AreNotes (codes "#" ++ (text ++ codes "\n"))
unfolding encode
one-note text h = record {
  lines = h.characters ∷ [];
  each = rw h.one refl;
  spelled =
      ap (λ (t : List ℕ). codes "#" ++ (t ++ codes "\n")) h.spelled
      ∙ ap (λ (t : List ℕ). codes "#" ++ t) (sym (encodes-append h.characters (codes "\n")))
      ∙ ap encode_utf8_all (sym (append-nil (comment_line h.characters)));
}

-- notes with more behind them
pub notes-extended : (new old more text : List ℕ) → new ≡ old ++ more → more ≡ text → AreNotes old → AreNotes text
    → AreNotes new
notes-extended new old more text e f h k = subst AreNotes (sym (e ∙ ap (λ (t : List ℕ). old ++ t) f))
    (notes-join old text h k)

-- ---- texts that fit on a line

pub scalars-join : (xs ys : List ℕ) → all_scalars xs ≡ true → all_scalars ys ≡ true → all_scalars (xs ++ ys) ≡ true
scalars-join [] ys h k = k
scalars-join (x ∷ xs) ys h k = let p = and-parts (scalar x) (all_scalars xs) h in
    rw (p.0, scalars-join xs ys p.1 k) refl

pub line-join : (xs ys : List ℕ) → IsLine xs → IsLine ys → IsLine (xs ++ ys)
line-join xs ys h k =
    let a = and-parts (all_scalars h.characters) (list_all (λ c. not (c == 10)) h.characters) h.one in
    let b = and-parts (all_scalars k.characters) (list_all (λ c. not (c == 10)) k.characters) k.one in
    record {
      characters = h.characters ++ k.characters;
      one = rw (
        scalars-join h.characters k.characters a.0 b.0,
        list_all-append (λ c. not (c == 10)) h.characters k.characters,
        a.1,
        b.1,
      ) refl;
      spelled = (λ i. h.spelled i ++ k.spelled i) ∙ sym (encodes-append h.characters k.characters);
    }

-- '"' and ' '
pub quote-line : IsLine (codes "\"")
unfolding encode
quote-line = record { characters = codes "\""; one = refl; spelled = refl }

pub space-line : IsLine (codes " ")
unfolding encode
space-line = record { characters = codes " "; one = refl; spelled = refl }

shown-passes : (c : ℕ) → scalar c ≡ true → (scalar (shown c) ≡ true) × (not (shown c == 10) ≡ true)
shown-passes c h = by_test (c == 10) refl
  where
    by_test : (b : Bool) → (c == 10) ≡ b → (scalar (cond b 63 c) ≡ true) × (not (cond b 63 c == 10) ≡ true)
    by_test true e = (refl, refl)
    by_test false e = (h, ap not e)

all-shown : (cs : List ℕ) → all_scalars cs ≡ true → is_one_line (map shown cs) ≡ true
all-shown [] h = refl
all-shown (c ∷ cs) h =
    let p = and-parts (scalar c) (all_scalars cs) h in
    let here = shown-passes c p.0 in
    let more = and-parts (all_scalars (map shown cs)) (list_all (λ d. not (d == 10)) (map shown cs)) (all-shown cs p.1)
    in
    rw (here.0, here.1, more.0, more.1) refl

pub shown-line : (text : List ℕ) → IsUtf8 text → IsLine (shown_text text)
shown-line text utf8 = record {
  characters = map shown (chars text);
  one = all-shown (chars text) (scalars-chars text utf8);
  spelled = refl;
}

digit-feedless : (c : ℕ) → is_ascii_digit c ≡ true → not (c == 10) ≡ true
digit-feedless c h = grind (arith, nat_tests)

digits-feedless : (ds : List ℕ) → list_all is_ascii_digit ds ≡ true → list_all (λ c. not (c == 10)) ds ≡ true
digits-feedless [] h = refl
digits-feedless (d ∷ ds) h = let p = and-parts (is_ascii_digit d) (list_all is_ascii_digit ds) h in
    rw (digit-feedless d p.0, digits-feedless ds p.1) refl

pub number-line : (n : ℕ) → n < 2 ^ 64 → IsLine (decimal n)
number-line n small =
    let digits = digits_decimal digit_numerals n small in
    record {
      characters = decimal n;
      one = rw (digits-scalars (decimal n) digits, digits-feedless (decimal n) digits)
          refl;
      spelled = sym (digits-encode (decimal n) digits);
    }

-- ---- a text that is written character by character

pub text-more : (front old new xs : List ℕ) (c d : ℕ) → old ≡ front ++ encode_utf8_all (map shown xs)
    → new ≡ old ++ encode_utf8 d → d ≡ shown c → new ≡ front ++ encode_utf8_all (map shown (xs ++ c ∷ []))
text-more front old new xs c d h k e =
    let last : encode_utf8_all (map shown (xs ++ c ∷ [])) ≡ encode_utf8_all (map shown xs) ++ encode_utf8 (shown c) =
    ap encode_utf8_all (map_push shown xs c)
    ∙ encodes-append (map shown xs) (shown c ∷ [])
    ∙ ap (λ (t : List ℕ). encode_utf8_all (map shown xs) ++ t) (append-nil (encode_utf8 (shown c))) in
    k
    ∙ (λ i. h i ++ encode_utf8 (e i))
    ∙ append_assoc front (encode_utf8_all (map shown xs)) (encode_utf8 (shown c))
    ∙ ap (λ (t : List ℕ). front ++ t) (sym last)

pub text-done : (front line xs text : List ℕ) → line ≡ front ++ encode_utf8_all (map shown xs)
    → map (λ c. c) xs ≡ chars text → line ≡ front ++ shown_text text
text-done front line xs text h e = h ∙ ap (λ (cs : List ℕ). front ++ encode_utf8_all (map shown cs))
    (sym (map-id xs) ∙ e)

-- ---- a whole note

-- what a line is made of, step by step
pub comment-note : (start body all parts : List ℕ) → start ≡ codes "# " → body ≡ start ++ parts
    → all ≡ body ++ codes "\n" → IsLine parts → AreNotes all
comment-note start body all parts e f g h =
    let whole : all ≡ codes "#" ++ ((codes " " ++ parts) ++ codes "\n") = g
    ∙ ap (λ (t : List ℕ). t ++ codes "\n") (f ∙ ap (λ (t : List ℕ). t ++ parts) e) in
    subst AreNotes (sym whole) (one-note (codes " " ++ parts) (line-join (codes " ") parts space-line h))

pub name-line : (text : List ℕ) → IsUtf8 text → IsLine (codes "\"" ++ (shown_text text ++ codes "\""))
name-line text utf8 = line-join (codes "\"") (shown_text text ++ codes "\"") quote-line
    (line-join (shown_text text) (codes "\"") (shown-line text utf8) quote-line)

-- ---- parts that are written one by one

-- what is written and the parts that are left are all of it; if these fit on the line, all parts do
abbrev pub IsPartly : List ℕ → List ℕ → List Part → ℕ → Type 0
IsPartly front line parts i = (line ++ parts_text (drop i parts) ≡ front ++ parts_text parts)
    × (IsLine (parts_text (drop i parts)) → IsLine (parts_text parts))

pub one-part : (front old new : List ℕ) (parts : List Part) (i : ℕ) (d : Part) → i < length parts
    → IsPartly front old parts i → new ≡ old ++ part_text (get_or parts i d) → IsLine (part_text (get_or parts i d))
    → IsPartly front new parts (i + 1)
one-part front old new parts i d lt h e fits =
    let left : parts_text (drop i parts) ≡ part_text (get_or parts i d)
    ++ parts_text (drop (i + 1) parts) = rw add-one (ap parts_text (drop-cons parts i d lt)) in (
      ap (λ (t : List ℕ). t ++ parts_text (drop (i + 1) parts)) e
          ∙ append_assoc old (part_text (get_or parts i d)) (parts_text (drop (i + 1) parts))
          ∙ ap (λ (t : List ℕ). old ++ t) (sym left) ∙ h.0,
      λ k. h.1 (subst IsLine (sym left) (line-join (part_text (get_or parts i d)) (parts_text (drop (i + 1) parts))
          fits k)),
    )
