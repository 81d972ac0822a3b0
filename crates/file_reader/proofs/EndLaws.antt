-- What a text comes to at its end.
use Rattle.std.proofs.Common.{◌≡◌, ℕ, ◌+◌, ◌-◌, ◌≤◌, ◌<◌, ◌^◌, Bool, true, false, List, [], ◌++◌, length, take}
use Rattle.std.proofs.Common.{take_all, Result, Ok, Err, refl, sym, ap, subst, ◌∙◌, arith}
use Rattle.std.specs.Prelude.{◌==◌, is_none, map}
use Rattle.std.specs.Str.{chars, IsUtf8}
use Rattle.std.specs.Str.Lossy.{utf8_valid_len, utf8_error_len}
use Rattle.std.proofs.lemmas.List.{append-nil}
use Rattle.std.proofs.lemmas.Str.{encodes-chars, scalars-chars}
use Rattle.cyc_lex.specs.declared.fault.LexFault.{LexFault}
use Rattle.cyc_lex.specs.declared.fault.ReadFault.{ReadFault}
use Rattle.cyc_lex.specs.declared.fault.ReadFault.TheVariants as faults
use Rattle.cyc_lex.specs.declared.place.Bad.{Bad}
use Rattle.cyc_lex.specs.declared.place.Place.{Place}
use Rattle.cyc_lex.specs.declared.place.Stop.{Stop}
use Rattle.cyc_lex.specs.declared.place.Stop.TheVariants as stops
use Rattle.cyc_lex.specs.Answer.{fault_of}
use Rattle.cyc_lex.specs.Lexing.{Stops, lex, comment_len, with_tokens}
use Rattle.cyc_lex.specs.Placed.{Placed}
use Rattle.cyc_lex.specs.Word.{word_of, EndsOnce}
use Rattle.cyc_lex.specs.Cutting.{cut_text}
use Rattle.cyc_lex.proofs.Lexed.{with_tokens-ok, with_tokens-err}
use Rattle.cyc_grammar.proofs.WholeTexts.{all-tokens}
use Rattle.piecewise_lex.specs.declared.valid.Valid.{Valid}
use Rattle.piecewise_lex.specs.Feeding.{tokens_from, is_cut}
use Rattle.piecewise_lex.specs.Taking.{reading, tokens_in}
use Rattle.piecewise_lex.specs.Valid.{IsValid}
use Rattle.piecewise_lex.proofs.Takes.{whole-is}
use Rattle.piecewise_lex.proofs.Utf8Cuts.{error-nil}
use Rattle.piecewise_lex.proofs.ValidLaws.{chars-whole, whole-tail}
use Rattle.file_reader.specs.declared.held.Faulty.{Faulty}
use Rattle.file_reader.specs.declared.held.Held.TheVariants as kinds
use Rattle.file_reader.specs.declared.passing.Passed.{Passed}
use Rattle.file_reader.specs.declared.stretch.Stretch.{Stretch}
use Rattle.file_reader.specs.Helds.{parts_of, IsSmall, IsToldStop}
use Rattle.file_reader.specs.Lasts.{IsLastStretch}
use Rattle.file_reader.specs.Outcomes.{Outcome, Faulty as Bears}
use Rattle.file_reader.specs.Passing.{IsPassed}
use Rattle.file_reader.specs.Pieces.{Tells, IsOpen}
use Rattle.file_reader.specs.Stages.{Stage, Head, Nodes, Dead, Unlexed, Lost, bad_ahead, behind, outcome}
use Rattle.file_reader.specs.Stretches.{tokens_of}
use Rattle.file_reader.proofs.LexEnds.{lex-ends, few-chars}
use Rattle.file_reader.proofs.PieceLaws.{statement-bad}

pub tells-fault : (x : ReadFault) → Tells (Bears x) (Err x)
tells-fault faults.OutOfMemory = tt
tells-fault (faults.Lex fault) = refl
tells-fault (faults.Syntax n l c) = refl
tells-fault (faults.IllFormed fault n l c) = refl
tells-fault (faults.Limit what n l c) = refl

-- the tokens of the bytes that wait
abbrev Rest : Faulty → Result (List Placed) (Bad × Place)
Rest f = tokens_from f.place f.comment f.waiting.items

outcome-is : (f : Faulty) (r : Result (List Placed) (Bad × Place)) → Rest f ≡ r
    → outcome (parts_of (kinds.Faulty f)) [] ≡ behind (Dead f.fault) r
outcome-is f r e = ap (λ (b : List ℕ). behind (Dead f.fault) (tokens_from f.place f.comment b))
    (append-nil f.waiting.items) ∙ ap (behind (Dead f.fault)) e

abbrev pub Answered : Faulty → ReadFault → Type 0
Answered f x = Tells (outcome (parts_of (kinds.Faulty f)) []) (Err x)

pub answer-fault : (f : Faulty) (ts : List Placed) → Rest f ≡ Ok ts → Answered f f.fault
answer-fault f ts e = subst (λ (o : Outcome). Tells o (Err f.fault)) (sym (outcome-is f (Ok ts) e))
    (tells-fault f.fault)

pub answer-stop : (f : Faulty) (e : Stop) (x : ReadFault) → Stops e (Rest f) → IsToldStop e x → Answered f x
answer-stop f stops.OutOfMemory x h told = subst (Answered f) (sym told) tt
answer-stop f (stops.At bad p) x h told = subst (Answered f) (sym told)
    (subst (λ (o : Outcome). Tells o (Err (faults.Lex (fault_of bad p)))) (sym (outcome-is f (Err (bad, p)) h)) refl)

-- a byte that begins no character
pub first-stops : (p : Place) (c : Bool) (bytes : List ℕ) (v : Valid) (e : Stop) → IsValid bytes v
    → (length v.tail.now == 0) ≡ false → Stops e (lex false p (comment_len c (chars v.text.now)) (chars v.text.now))
    → Stops e (tokens_from p c bytes)
unfolding tokens_from
first-stops p c bytes v e valid some bad =
    let whole : false ≡ (utf8_valid_len bytes == length bytes) = sym some ∙ whole-tail bytes v.tail.now valid.tail in
    subst (Stops e) (λ i. lex (whole i) p (comment_len c (valid.text i)) (valid.text i)) bad

-- ---- a text of characters alone

cut-empty : (bytes : List ℕ) (v : Valid) → IsValid bytes v → v.tail.now ≡ [] → is_cut bytes ≡ true
cut-empty bytes v valid none = ap (λ (w : List ℕ). is_none (utf8_error_len w)) (sym valid.tail ∙ none)
    ∙ ap is_none error-nil

pub text-stops : (f : Faulty) (v : Valid) (e : Stop) → IsValid f.waiting.items v → v.tail.now ≡ []
    → Stops e (tokens_in (reading f.place f.comment v.text.now)) → Stops e (Rest f)
text-stops f v stops.OutOfMemory valid none h = tt
text-stops f v (stops.At bad p) valid none h =
    ap (tokens_from f.place f.comment) (sym (append-nil f.waiting.items))
    ∙ statement-bad (Dead f.fault) f.place p f.comment f.waiting.items v.text.now bad valid.text
    (cut-empty f.waiting.items v valid none) h []

pub text-tokens : (p : Place) (c : Bool) (text : List ℕ) → IsUtf8 text
    → lex true p (comment_len c (chars text)) (chars text) ≡ tokens_from p c text
unfolding tokens_from
text-tokens p c text utf8 = let same = chars-whole text text refl utf8 in
    λ i. lex (whole-is text utf8 i) p (comment_len c (same i)) (same i)

pub passed-tokens : (p : Place) (c : Bool) (bytes : List ℕ) (v : Valid) (to : Passed) → IsValid bytes v
    → v.tail.now ≡ [] → (h : IsPassed p c v.text.now to) → tokens_from p c bytes
    ≡ with_tokens h.tokens (lex true to.place (comment_len to.comment (chars to.rest.now)) (chars to.rest.now))
passed-tokens p c bytes v to valid none h =
    ap (tokens_from p c) (sym valid.whole ∙ ap (λ (w : List ℕ). v.text.now ++ w) none)
    ∙ h.law []
    ∙ ap (λ (b : List ℕ). with_tokens h.tokens (tokens_from to.place to.comment b)) (append-nil to.rest.now)
    ∙ sym (ap (with_tokens h.tokens) (text-tokens to.place to.comment to.rest.now h.utf8))

pub rest-ends : (p : Place) (c : Bool) (bytes : List ℕ) (v : Valid) (to : Passed) (us : List Placed) → IsValid bytes v
    → v.tail.now ≡ [] → (h : IsPassed p c v.text.now to) → lex true to.place
    (comment_len to.comment (chars to.rest.now)) (chars to.rest.now) ≡ Ok us
    → tokens_from p c bytes ≡ Ok (h.tokens ++ us)
rest-ends p c bytes v to us valid none h e = passed-tokens p c bytes v to valid none h ∙ ap (with_tokens h.tokens) e
    ∙ with_tokens-ok h.tokens us

pub rest-stops : (p : Place) (c : Bool) (bytes : List ℕ) (v : Valid) (to : Passed) (e : Stop) → IsValid bytes v
    → v.tail.now ≡ [] → IsPassed p c v.text.now to → Stops e
    (lex true to.place (comment_len to.comment (chars to.rest.now)) (chars to.rest.now))
    → Stops e (tokens_from p c bytes)
rest-stops p c bytes v to stops.OutOfMemory valid none h k = tt
rest-stops p c bytes v to (stops.At bad q) valid none h k = passed-tokens p c bytes v to valid none h
    ∙ ap (with_tokens h.tokens) k ∙ with_tokens-err h.tokens (bad, q)

-- ---- the tokens of all bytes

-- all of it is characters
pub whole-rest : (p : Place) (c : Bool) (bytes : List ℕ) (v : Valid) → IsValid bytes v → v.tail.now ≡ []
    → lex true p (comment_len c (chars v.text.now)) (chars v.text.now) ≡ tokens_from p c bytes
whole-rest p c bytes v valid none =
    text-tokens p c v.text.now valid.utf8 ∙ ap (tokens_from p c)
    (sym (append-nil v.text.now) ∙ ap (λ (w : List ℕ). v.text.now ++ w) (sym none) ∙ valid.whole)

-- a bad place goes before all else
bad-told : (stage : Stage) (fault : LexFault) → IsOpen stage → Tells (bad_ahead stage fault) (Err (faults.Lex fault))
bad-told (Head front) fault going = refl
bad-told (Nodes b) fault going = refl
bad-told (Dead first) fault going = refl
bad-told (Unlexed first) fault going = absurd going
bad-told Lost fault going = absurd going

pub last-stop : (p : Place) (c : Bool) (bytes : List ℕ) (e : Stop) (x : ReadFault) → Stops e (tokens_from p c bytes)
    → IsToldStop e x → (stage : Stage) → IsOpen stage → Tells (behind stage (tokens_from p c bytes)) (Err x)
last-stop p c bytes stops.OutOfMemory x h told stage going = subst
    (λ (y : ReadFault). Tells (behind stage (tokens_from p c bytes)) (Err y)) (sym told) tt
last-stop p c bytes (stops.At bad q) x h told stage going =
    subst (λ (y : ReadFault). Tells (behind stage (tokens_from p c bytes)) (Err y)) (sym told)
    (subst (λ (r : Result (List Placed) (Bad × Place)). Tells (behind stage r) (Err (faults.Lex (fault_of bad q))))
    (sym h) (bad-told stage (fault_of bad q) going))

pub last-is : (s : Stretch) (bytes : List ℕ) (v : Valid) → s.text.now ≡ v.text.now → IsValid bytes v → v.tail.now ≡ []
    → IsSmall s.place → s.before ≤ s.place.offset → s.place.offset + length bytes < 2 ^ 32 - 1
    → lex true s.place (comment_len s.comment (chars v.text.now)) (chars v.text.now)
    ≡ Ok (cut_text s.place s.comment v.text.now) → s.count ≡ length (cut_text s.place s.comment v.text.now)
    → IsLastStretch s.place s.comment bytes s.before s
last-is s bytes v text valid none small few room e count = record {
  stretch = record {
    room = record { offset = omega (arith, room, size, ap length text); line = small.0; column = small.1 };
    within = omega (arith, count, ap (λ (b : List ℕ). length (cut_text s.place s.comment b)) text);
    few = omega (
      arith,
      few,
      room,
      count,
      ends.1,
      few-chars (chars v.text.now),
      ap length (encodes-chars v.text.now valid.utf8),
      size,
    );
  };
  tokens = sym (whole-rest s.place s.comment bytes v valid none) ∙ e ∙ ap (λ (ts : List Placed). Ok ts) (sym all);
  words = all-tokens (map word_of (tokens_of s)) (subst (λ (ts : List Placed). EndsOnce (map word_of ts)) (sym all)
      ends.0);
  before = refl;
}
  where
    us : List Placed
    us = cut_text s.place s.comment v.text.now

    ends : EndsOnce (map word_of us) × (length us ≤ length (chars v.text.now) + 1)
    ends = lex-ends s.place (comment_len s.comment (chars v.text.now)) (chars v.text.now) us
        (scalars-chars v.text.now valid.utf8) e

    size : length bytes ≡ length v.text.now
    size = ap length (sym valid.whole ∙ ap (λ (w : List ℕ). v.text.now ++ w) none ∙ append-nil v.text.now)

    all : tokens_of s ≡ us
    all = ap (λ (b : List ℕ). take s.count (cut_text s.place s.comment b)) text
        ∙ take_all s.count us (omega (arith, count))
