-- Notes before a text change no word of it.
use Rattle.std.proofs.Common.{◌≡◌, ℕ, Bool, true, not, List, [], ◌∷◌, ◌++◌, length, drop, Ok, refl, sym, ap, ◌∙◌, arith}
use Rattle.std.proofs.Common.{append_assoc}
use Rattle.std.specs.Prelude.{◌==◌, ◌↔◌, codes}
use Rattle.std.specs.Str.{encode_utf8_all, all_scalars}
use Rattle.std.specs.Str.Lossy.{utf8_valid_len}
use Rattle.std.specs.List.{list_all, flat_map, prefix_len}
use Rattle.std.proofs.lemmas.List.{take_at, drop_at}
use Rattle.cyc_lex.specs.declared.place.Place.{Place}
use Rattle.cyc_lex.specs.declared.place.Run.TheVariants as runs
use Rattle.cyc_lex.specs.Characters.{goes_on}
use Rattle.cyc_lex.specs.Lexing.{start, pass, pass_all, lex, tokens_of}
use Rattle.cyc_lex.specs.Word.{Word}
use Rattle.cyc_lex.specs.Spelling.{Spells}
use Rattle.cyc_lex.proofs.BoolParts.{and-parts}
use Rattle.cyc_lex.proofs.Pieces.{skip}
use Rattle.piecewise_lex.specs.Feeding.{valid_chars}
use Rattle.piecewise_lex.proofs.Extending.{chars-behind, whole-behind}
use Rattle.heap_reader.specs.Reading.{Format, IsRead}
use Rattle.solve_top.specs.Notes.{is_one_line, comment_line, AreNotes}
use Rattle.solve_top.proofs.NoteLaws.{scalars-join}
use Rattle.solve_top.proofs.SameWords.{Repeats, lex-repeats}

-- ---- one line

-- a comment goes on to its line feed
comment-size : (cs rest : List ℕ) → list_all (λ c. not (c == 10)) cs ≡ true
    → prefix_len (goes_on runs.Comment) (cs ++ 10 ∷ rest) ≡ length cs
comment-size [] rest h = refl
comment-size (c ∷ cs) rest h =
    let p = and-parts (not (c == 10)) (list_all (λ d. not (d == 10)) cs) h in
    rw (p.0, comment-size cs rest p.1) (omega arith)

-- the place behind a comment line
abbrev behind : Place → List ℕ → Place
behind p cs = pass (pass_all (pass p 35) cs) 10

line-passed : (whole : Bool) (p : Place) (cs rest : List ℕ) → list_all (λ c. not (c == 10)) cs ≡ true
    → lex whole p 0 (35 ∷ (cs ++ 10 ∷ rest)) ≡ lex whole (behind p cs) 0 rest
unfolding lex
line-passed whole p cs rest h =
    ap (λ n. lex whole (pass p 35) n (cs ++ 10 ∷ rest)) (comment-size cs rest h)
    ∙ skip whole (pass p 35) (length cs) (cs ++ 10 ∷ rest)
    ∙ ap (λ xs. lex whole (pass_all (pass p 35) xs) 0 (drop (length cs) (cs ++ 10 ∷ rest)))
    (take_at cs (10 ∷ rest) (length cs) refl)
    ∙ ap (λ xs. lex whole (pass_all (pass p 35) cs) 0 xs) (drop_at cs (10 ∷ rest) (length cs) refl)

-- ---- all lines

behind_all : Place → List (List ℕ) → Place
behind_all p [] = p
behind_all p (cs ∷ css) = behind_all (behind p cs) css

lines-passed : (whole : Bool) (p : Place) (css : List (List ℕ)) (rest : List ℕ) → list_all is_one_line css ≡ true
    → lex whole p 0 (flat_map comment_line css ++ rest) ≡ lex whole (behind_all p css) 0 rest
unfolding behind_all
lines-passed whole p [] rest h = refl
lines-passed whole p (cs ∷ css) rest h =
    let one = and-parts (is_one_line cs) (list_all is_one_line css) h in
    let feedless = and-parts (all_scalars cs) (list_all (λ c. not (c == 10)) cs) one.0 in
    let apart : flat_map comment_line (cs ∷ css) ++ rest ≡ 35 ∷ (cs ++ 10 ∷ (flat_map comment_line css ++ rest)) =
    append_assoc (comment_line cs) (flat_map comment_line css) rest
    ∙ ap (λ (xs : List ℕ). 35 ∷ xs) (append_assoc cs (codes "\n") (flat_map comment_line css ++ rest)) in
    ap (lex whole p 0) apart
    ∙ line-passed whole p cs (flat_map comment_line css ++ rest) feedless.1
    ∙ lines-passed whole (behind p cs) css rest one.1

lines-good : (css : List (List ℕ)) → list_all is_one_line css ≡ true → all_scalars (flat_map comment_line css) ≡ true
lines-good [] h = refl
lines-good (cs ∷ css) h =
    let one = and-parts (is_one_line cs) (list_all is_one_line css) h in
    let good = and-parts (all_scalars cs) (list_all (λ c. not (c == 10)) cs) one.0 in
    scalars-join (comment_line cs) (flat_map comment_line css) (scalars-join cs (codes "\n") good.0 refl)
    (lines-good css one.1)

-- ---- whole texts

-- whether all of the bytes are characters
abbrev is_whole : List ℕ → Bool
is_whole bytes = utf8_valid_len bytes == length bytes

tokens-are : (bytes : List ℕ) → tokens_of bytes ≡ lex (is_whole bytes) start 0 (valid_chars bytes)
unfolding valid_chars
tokens-are bytes = refl

module _ (notes text : List ℕ) (h : AreNotes notes) where
  -- the tokens of the text, from the place where it stands
  tokens-behind : tokens_of (notes ++ text) ≡ lex (is_whole text) (behind_all start h.lines) 0 (valid_chars text)
  tokens-behind =
      let good = lines-good h.lines h.each in
      ap (λ (xs : List ℕ). tokens_of (xs ++ text)) h.spelled
      ∙ tokens-are (encode_utf8_all (flat_map comment_line h.lines) ++ text)
      ∙ ap (λ b. lex b start 0 (valid_chars (encode_utf8_all (flat_map comment_line h.lines) ++ text)))
      (whole-behind (flat_map comment_line h.lines) text good)
      ∙ ap (lex (is_whole text) start 0) (chars-behind (flat_map comment_line h.lines) text good)
      ∙ lines-passed (is_whole text) start h.lines (valid_chars text) h.each

  pub notes-added : Repeats (tokens_of text) (tokens_of (notes ++ text))
  notes-added ts e =
      let w = lex-repeats (is_whole text) start (behind_all start h.lines) 0 (valid_chars text) ts
      (sym (tokens-are text) ∙ e) in
      record { tokens = w.tokens; is = tokens-behind ∙ w.is; same = w.same }

  pub notes-removed : Repeats (tokens_of (notes ++ text)) (tokens_of text)
  notes-removed ts e =
      let w = lex-repeats (is_whole text) (behind_all start h.lines) start 0 (valid_chars text) ts
      (sym tokens-behind ∙ e) in
      record { tokens = w.tokens; is = tokens-are text ∙ w.is; same = w.same }

  pub same-words : (words : List Word) → Spells (notes ++ text) words ↔ Spells text words
  same-words words = (
    λ s. let w = notes-removed s.0 s.1 in (w.tokens, w.is, w.same ∙ s.2),
    λ s. let w = notes-added s.0 s.1 in (w.tokens, w.is, w.same ∙ s.2),
  )

  -- for every format
  pub notes-passed-over : {T V : Type 0} (format : Format T V) (v : V) → IsRead format text (Ok v)
      → IsRead format (notes ++ text) (Ok v)
  notes-passed-over format v r =
      let w = notes-added r.0 r.1 in
      (w.tokens, w.is, (r.2.0, (r.2.1.0, w.same ∙ r.2.1.1), r.2.2, r.2.3))
