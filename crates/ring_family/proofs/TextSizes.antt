-- The length of a text, by its words.
use Rattle.std.proofs.Common.{ℕ, ◌+◌, ◌≤◌, Bool, true, false, cond, ◌||◌, ◌&&◌, List, [], ◌∷◌, ◌++◌, length, arith}
use Rattle.std.proofs.Common.{length-append}
use Rattle.std.specs.Prelude.{codes}
use Rattle.std.specs.List.{sum_by}
use Rattle.std.proofs.lemmas.List.Sums.{sum_by-cons}
use Rattle.cyc_lex.specs.Word.{Word, is_name, is_symbol}
use Rattle.cyc_lex.specs.Spacing.{is_text, closes_up, is_closed_up, ends_line, gap, text_behind, text_of}

-- the length of a word and of a space
abbrev pub spaced_word : Word → ℕ
spaced_word w = length w.text + 1

-- the length of these words with a space after each
abbrev pub spaced_words : List Word → ℕ
spaced_words ws = sum_by spaced_word ws

one_or_none : (line closed : Bool) → length {A = ℕ} (cond line (10 ∷ []) (cond closed [] (32 ∷ []))) ≤ 1
one_or_none true closed = omega arith
one_or_none false true = omega arith
one_or_none false false = omega arith

gap_short : (u v : Word) → length (gap u v) ≤ 1
gap_short u v = one_or_none (ends_line u) (closes_up u || (is_closed_up v ||
    (is_name u.kind && (is_symbol v.kind && is_text v (codes "(")))))

feed_short : (line : Bool) → length {A = ℕ} (cond line (10 ∷ []) []) ≤ 1
feed_short true = omega arith
feed_short false = omega arith

behind_short : (u : Word) (ws : List Word) → length (text_behind u ws) ≤ 1 + spaced_words ws
behind_short u [] = feed_short (ends_line u)
behind_short u (v ∷ vs) =
    omega (
      arith,
      length-append (gap u v) (v.text ++ text_behind v vs),
      length-append v.text (text_behind v vs),
      gap_short u v,
      behind_short v vs,
      sum_by-cons spaced_word v vs,
    )

-- a text is no longer than its words with a space after each
pub text_short : (ws : List Word) → length (text_of ws) ≤ spaced_words ws
unfolding text_of
text_short [] = omega arith
text_short (w ∷ ws) = omega (
  arith,
  length-append w.text (text_behind w ws),
  behind_short w ws,
  sum_by-cons spaced_word w ws,
)
