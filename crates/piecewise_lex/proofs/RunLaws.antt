-- A run waits, whatever comes, until a character does not go on it.
use Rattle.std.proofs.Common.{◌≡◌, ℕ, ◌+◌, ◌≤◌, Bool, true, false, ◌&&◌, List, [], ◌∷◌, ◌++◌, length, take, drop}
use Rattle.std.proofs.Common.{Option, Some, None, refl, sym, ap, subst, ◌∙◌, arith, append_assoc, length-append}
use Rattle.std.specs.Prelude.{nat_le, is_none, is_some}
use Rattle.std.specs.List.{list_all, prefix_len}
use Rattle.std.specs.Str.{chars, IsUtf8}
use Rattle.std.specs.Str.Lossy.{utf8_valid_len, utf8_error_len}
use Rattle.std.proofs.lemmas.List.{take-append-drop, length-take-le}
use Rattle.std.proofs.lemmas.Str.{chars-append, IsUtf8-append, utf8_valid_len_le}
use Rattle.std.proofs.lemmas.Bool.Decides.{nat_tests}
use Rattle.cyc_lex.specs.declared.token.Kind.{Kind}
use Rattle.cyc_lex.specs.declared.token.Kind.TheVariants.{Name, Number}
use Rattle.cyc_lex.specs.declared.place.Run.{Run}
use Rattle.cyc_lex.specs.declared.place.Run.TheVariants as runs
use Rattle.cyc_lex.specs.declared.place.Piece.TheVariants as pieces
use Rattle.cyc_lex.specs.declared.place.Place.{Place}
use Rattle.cyc_lex.specs.Characters.{goes_on}
use Rattle.cyc_lex.specs.Lexing.{piece_at, pass_all}
use Rattle.cyc_lex.proofs.BoolParts.{and-parts}
use Rattle.cyc_lex.proofs.Pieces.{comment_len-false}
use Rattle.piecewise_lex.specs.declared.run.KnownText.{KnownText}
use Rattle.piecewise_lex.specs.Feeding.{is_held, taken_chars, held_chars, ends_in_comment, tokens_taken, valid_chars}
use Rattle.piecewise_lex.specs.Feeding.{after_valid, is_cut}
use Rattle.piecewise_lex.specs.Runs.{Begins, IsRun, IsKnownRun, IsKnown, IsAllRun}
use Rattle.piecewise_lex.specs.Taking.{Waits}
use Rattle.piecewise_lex.proofs.Carrying.{taken-held, held-held, comment-held, tokens-held}
use Rattle.piecewise_lex.proofs.Utf8Cuts.{drop-behind, valid-append, valid-front, take-behind}

kind_of : Run → Kind
kind_of runs.Comment = Name
kind_of runs.Name = Name
kind_of runs.Number = Number

-- what begins a run is a token, as long as characters go on it
begun-piece : (run : Run) (c : ℕ) (cs : List ℕ) → Begins run c
    → piece_at c cs ≡ (pieces.Token (kind_of run), prefix_len (goes_on run) cs)
unfolding kind_of
begun-piece runs.Comment c cs h = absurd h.2
begun-piece runs.Name c cs h = rw (h.0, h.1, h.2) refl
begun-piece runs.Number c cs h = rw (h.0, h.1, h.2.0, h.2.1) refl

all-prefix : (p : ℕ → Bool) (cs : List ℕ) → list_all p cs ≡ true → prefix_len p cs ≡ length cs
all-prefix p [] h = refl
all-prefix p (c ∷ cs) h = let t = and-parts (p c) (list_all p cs) h in rw (t.0, all-prefix p cs t.1) (omega arith)

reaches : (n : ℕ) → (nat_le n n && true) ≡ true
reaches n = grind (arith, nat_tests)

run-held : (run : Run) (c : ℕ) (cs : List ℕ) → IsRun run (c ∷ cs) → is_held c cs ≡ true
unfolding is_held
run-held run c cs h = rw (begun-piece run c cs h.0, all-prefix (goes_on run) cs h.1) (reaches (length cs))

-- all of a run waits
pub run-waits : (run : Run) (p : Place) (cs : List ℕ) → IsRun run cs
    → Waits (record { place = p; comment = false; chars = cs })
unfolding pass_all
run-waits run p [] h = absurd h
run-waits run p (c ∷ cs) h =
    let none = comment_len-false (c ∷ cs) in
    let held = run-held run c cs h in
    record {
      tokens = ap (λ k. tokens_taken p k (c ∷ cs)) none ∙ tokens-held c cs p held;
      held = ap (λ k. held_chars k (c ∷ cs)) none ∙ held-held c cs held;
      place = ap (λ k. pass_all p (taken_chars k (c ∷ cs))) none ∙ ap (pass_all p) (taken-held c cs held);
      comment = ap (λ k. ends_in_comment false k (c ∷ cs)) none ∙ comment-held c cs false held;
    }

all-append : (p : ℕ → Bool) (xs ys : List ℕ) → list_all p xs ≡ true → list_all p ys ≡ true
    → list_all p (xs ++ ys) ≡ true
all-append p [] ys h k = k
all-append p (x ∷ xs) ys h k = let t = and-parts (p x) (list_all p xs) h in rw (t.0, all-append p xs ys t.1 k) refl

run-append : (run : Run) (xs ys : List ℕ) → IsRun run xs → list_all (goes_on run) ys ≡ true → IsRun run (xs ++ ys)
run-append run [] ys h k = absurd h
run-append run (x ∷ xs) ys h k = (h.0, all-append (goes_on run) xs ys h.1 k)

valid-is : (bytes : List ℕ) → valid_chars bytes ≡ chars (take (utf8_valid_len bytes) bytes)
unfolding valid_chars
valid-is bytes = refl

-- a run, and characters after it that go on it
pub longer : (waiting piece tail bytes text : List ℕ) (known : KnownText) (new : KnownText)
    → IsKnownRun false waiting known → tail ≡ drop known.len waiting → bytes ≡ tail ++ piece
    → chars text ≡ valid_chars bytes → length text ≡ utf8_valid_len bytes → is_cut bytes ≡ true
    → list_all (goes_on known.run) (chars text) ≡ true
    → new.run ≡ known.run → new.len ≡ known.len + length text → IsAllRun (waiting ++ piece) new
longer waiting piece tail bytes text known new h behind joined same size cut goes run len =
    let n = known.len in
    let front = take n waiting in
    let m = utf8_valid_len bytes in
    let whole : waiting ++ piece ≡ front ++ bytes = ap (λ (w : List ℕ). w ++ piece) (sym (take-append-drop n waiting))
    ∙ append_assoc front (drop n waiting) piece ∙ ap (λ (w : List ℕ). front ++ w)
    (ap (λ (w : List ℕ). w ++ piece) (sym behind) ∙ sym joined) in
    let n-is : length front ≡ n = length-take-le n waiting h.within in
    let valid : utf8_valid_len (waiting ++ piece) ≡ n + m = ap utf8_valid_len whole ∙ valid-append front bytes h.utf8
    ∙ ap (λ k. k + m) n-is in
    let new-len : new.len ≡ length front + m = omega (arith, len, size, n-is) in
    let taken : take new.len (waiting ++ piece) ≡ front ++ take m bytes = ap (take new.len) whole
    ∙ ap (λ k. take k (front ++ bytes)) new-len ∙ take-behind front bytes m in
    let after : after_valid (waiting ++ piece) ≡ after_valid bytes = ap (λ k. drop k (waiting ++ piece)) valid
    ∙ ap (drop (n + m)) whole ∙ ap (λ k. drop (k + m) (front ++ bytes)) (sym n-is) ∙ drop-behind front bytes m in
    let fits : m ≤ length bytes = utf8_valid_len_le bytes in
    record {
      front = record {
        solid = refl;
        within = omega (arith, new-len, fits, ap length whole, length-append front bytes);
        utf8 = subst IsUtf8 (sym taken) (IsUtf8-append front (take m bytes) h.utf8 (valid-front bytes));
        run = subst (λ (r : Run). IsRun r (chars (take new.len (waiting ++ piece)))) (sym run)
            (subst (IsRun known.run) (sym (ap chars taken ∙ chars-append front (take m bytes) h.utf8))
            (run-append known.run (chars front) (chars (take m bytes)) h.run
            (ap (list_all (goes_on known.run)) (sym (valid-is bytes) ∙ sym same) ∙ goes)));
      };
      cut = ap (λ (w : List ℕ). is_none (utf8_error_len w)) after ∙ cut;
      size = omega (arith, valid, len, size);
    }

pub known-comment : (comment : Bool) (bytes : List ℕ) (known : Option KnownText) → IsKnown comment bytes known
    → is_some known ≡ true → comment ≡ false
known-comment comment bytes None h some = absurd cc
known-comment comment bytes (Some known) h some = h.solid

pub run-chars : (bytes : List ℕ) (known : KnownText) → IsAllRun bytes known → IsRun known.run (valid_chars bytes)
run-chars bytes known h = subst (IsRun known.run) (sym (valid-is bytes ∙ ap (λ n. chars (take n bytes)) h.size))
    h.front.run
