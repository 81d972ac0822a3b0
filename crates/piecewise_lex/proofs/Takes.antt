-- What is taken of a text is what is taken of bytes.
use Rattle.std.proofs.Common.{◌≡◌, ℕ, ◌+◌, ◌≤◌, ◌<◌, Bool, true, false, List, [], ◌++◌, length, Option, Some, None}
use Rattle.std.proofs.Common.{Result, Ok, Err, sym, ap, subst, ◌∙◌, arith, inl, inr, length-append}
use Rattle.std.specs.Prelude.{map}
use Rattle.std.specs.Str.{chars, encode_utf8_all, IsUtf8}
use Rattle.std.specs.Str.Lossy.{utf8_valid_len}
use Rattle.std.proofs.lemmas.Str.{utf8_valid_len-IsUtf8}
use Rattle.cyc_lex.specs.declared.place.Place.{Place}
use Rattle.cyc_lex.specs.declared.place.Stop.{Stop}
use Rattle.cyc_lex.specs.declared.place.Stop.TheVariants as stops
use Rattle.piecewise_lex.specs.declared.batch.Batch.{Batch}
use Rattle.cyc_lex.specs.Lexing.{lex, Stops, ended}
use Rattle.piecewise_lex.specs.Feeding.{Parts, IsFed, Feeds, KeepsLaw, taken_chars, held_chars, tokens_taken}
use Rattle.piecewise_lex.specs.Feeding.{valid_chars, after_valid, is_cut, tokens_from, taken_in, comment_after}
use Rattle.cyc_lex.specs.Lexing.{comment_len}
use Rattle.piecewise_lex.specs.Batches.{IsOfText, TakesText, IsTaking, Takings, IsToldOf, TakesAll, TakesRest}
use Rattle.piecewise_lex.specs.Runs.{IsKnown, IsKnownRun, IsAllRun}
use Rattle.piecewise_lex.specs.declared.run.KnownText.{KnownText}
use Rattle.piecewise_lex.proofs.RunLaws.{run-waits, run-chars}
use Rattle.std.specs.Global.{Vec}
use Rattle.std.specs.Prelude.{◌==◌}
use Rattle.std.proofs.lemmas.Bool.{eq-eqb, ne_eqb}
use Rattle.piecewise_lex.specs.declared.owned.OwnedToken.{OwnedToken}
use Rattle.cyc_lex.specs.declared.fault.LexFault.{LexFault}
use Rattle.cyc_lex.specs.declared.fault.LexFault.TheVariants as faults
use Rattle.piecewise_lex.specs.Owned.{owned}
use Rattle.cyc_lex.proofs.Pieces.{IsBehind, pass_all-offset}
use Rattle.piecewise_lex.proofs.Fed.{IsTaken, fed, keeps, keeps-fault}
use Rattle.cyc_lex.proofs.Lexed.{Found}
use Rattle.piecewise_lex.proofs.Carrying.{then_tokens}
use Rattle.piecewise_lex.proofs.Extending.{all_chars, valid-parts, bytes-parts, taken-tokens, waiting-cut, taken-bad}
use Rattle.piecewise_lex.proofs.Extending.{bad-tokens, place_behind}

stops-then : (e : Stop) (a b : Found) → Stops e a → Stops e (then_tokens a b)
stops-then stops.OutOfMemory a b h = tt
stops-then (stops.At bad place) a b h = ap (λ r. then_tokens r b) h

of-text : (p : Place) (going : Bool) (bytes : List ℕ) (t : Batch) → is_cut bytes ≡ true
    → IsOfText p going (valid_chars bytes) (after_valid bytes) t → IsTaking p going bytes t
unfolding comment_after all_chars
of-text p going bytes t cut h = record {
  cut = cut;
  tokens = h.tokens;
  place = h.place;
  comment = h.comment;
  waiting = h.waiting ∙ sym (waiting-cut going bytes cut);
  known = h.known;
}

stops-cut : (p : Place) (going : Bool) (bytes : List ℕ) (e : Stop) → is_cut bytes ≡ true
    → Stops e (tokens_taken p (comment_len going (valid_chars bytes)) (valid_chars bytes))
    → Stops e (tokens_from p going (taken_in going bytes))
unfolding all_chars
stops-cut p going bytes e cut h = subst (Stops e) (sym (taken-tokens going bytes p cut))
    (stops-then e (tokens_taken p (comment_len going (valid_chars bytes)) (valid_chars bytes))
    (ended true (place_behind going bytes p)) h)

pub takes-bytes : (p : Place) (going : Bool) (bytes text tail : List ℕ) (r : Result Batch Stop)
    → chars text ≡ valid_chars bytes → tail ≡ after_valid bytes → is_cut bytes ≡ true → TakesText p going text tail r
    → Takings p going bytes r
takes-bytes p going bytes text tail (Ok t) same behind cut h = of-text p going bytes t cut
    (subst (λ (w : List ℕ). IsOfText p going (valid_chars bytes) w t) behind
    (subst (λ (cs : List ℕ). IsOfText p going cs tail t) same h))
takes-bytes p going bytes text tail (Err e) same behind cut h = stops-cut p going bytes e cut
    (subst (λ (cs : List ℕ). Stops e (tokens_taken p (comment_len going cs) cs)) same h)

pub stops-bad : (p : Place) (going : Bool) (bytes text : List ℕ) (e : Stop) → chars text ≡ valid_chars bytes
    → is_cut bytes ≡ false → Stops e (lex false p (comment_len going (chars text)) (chars text))
    → Stops e (tokens_from p going (taken_in going bytes))
stops-bad p going bytes text e same bad h =
    let here : tokens_from p going (taken_in going bytes)
    ≡ lex false p (comment_len going (chars text)) (chars text) = ap (tokens_from p going)
    (taken-bad going bytes bad) ∙ bad-tokens p going bytes bad
    ∙ sym (ap (λ (cs : List ℕ). lex false p (comment_len going cs) cs) same) in
    subst (Stops e) (sym here) h

-- a run, which waits whole
pub run-taking : (p : Place) (going : Bool) (bytes : List ℕ) (known : KnownText) (t : Batch) → going ≡ false
    → IsAllRun bytes known → map owned t.tokens.items ≡ [] → t.place ≡ p → t.comment ≡ false → t.waiting.items ≡ bytes
    → t.known ≡ Some known → IsTaking p going bytes t
unfolding comment_after all_chars
run-taking p going bytes known t solid h none place comment waiting is =
    let cs = valid_chars bytes in
    let w = run-waits known.run p cs (run-chars bytes known h) in
    subst (λ (b : Bool). IsTaking p b bytes t) (sym solid) (record {
      cut = h.cut;
      tokens = w.tokens ∙ ap (λ ts. Ok ts) (sym none);
      place = place ∙ sym w.place;
      comment = comment ∙ sym w.comment;
      waiting = waiting ∙ sym (waiting-cut false bytes h.cut
          ∙ ap (λ (held : List ℕ). encode_utf8_all held ++ after_valid bytes) w.held ∙ valid-parts bytes);
      known = known-is;
    })
  where
    known-is : IsKnown t.comment t.waiting.items t.known
    known-is = subst (λ (o : Option KnownText). IsKnown t.comment t.waiting.items o) (sym is)
        (subst (λ (b : List ℕ). IsKnownRun t.comment b known) (sym waiting)
        (subst (λ (b : Bool). IsKnownRun b bytes known) (sym comment) h.front))

-- ---- one call of a lexer

taken-is : (p : Place) (going : Bool) (bytes : List ℕ) (t : Batch) → IsTaking p going bytes t
    → IsTaken p going bytes (map owned t.tokens.items) t.place
unfolding all_chars
taken-is p going bytes t h = record { cut = h.cut; tokens = h.tokens; place = h.place }

-- the line and the column stay small
pub small-place : (p : Place) (going : Bool) (bytes : List ℕ) (t : Batch) → IsTaking p going bytes t
    → p.line ≤ p.offset + 1 → p.column ≤ p.offset + 1 → (t.place.line ≤ t.place.offset + 1)
    × (t.place.column ≤ t.place.offset + 1)
small-place p going bytes t h line column =
    let far = pass_all-offset p (taken_chars (comment_len going (valid_chars bytes)) (valid_chars bytes)) in
    let n = length (encode_utf8_all (taken_chars (comment_len going (valid_chars bytes)) (valid_chars bytes))) in
    let behind : IsBehind p t.place n = subst (λ (q : Place). IsBehind p q n) (sym h.place) far in
    (omega (arith, behind.offset, behind.line, line), omega (arith, behind.offset, behind.column, column))

-- what is answered and what is kept, where tokens are handed out
pub fed-parts : (old new : Parts) (piece : List ℕ) (t : Batch) → old.met ≡ None
    → new ≡ record { waiting = t.waiting.items; place = t.place; comment = t.comment; met = old.met }
    → IsTaking old.place old.comment (old.waiting ++ piece) t
    → IsFed old (old.waiting ++ piece) new (map owned t.tokens.items)
    × KeepsLaw old piece new (Ok (map owned t.tokens.items))
fed-parts old new piece t unmet is h =
    let bytes = old.waiting ++ piece in
    let there : Parts = record { waiting = t.waiting.items; place = t.place; comment = t.comment; met = old.met } in
    let taken = taken-is old.place old.comment bytes t h in
    subst (λ (s : Parts). IsFed old bytes s (map owned t.tokens.items)
    × KeepsLaw old piece s (Ok (map owned t.tokens.items))) (sym is) (
      fed old there piece (map owned t.tokens.items) unmet unmet h.waiting h.comment taken,
      keeps old there piece (map owned t.tokens.items) unmet unmet h.waiting h.comment taken,
    )

-- the same, where a fault is met
faulty-parts : (old new : Parts) (piece : List ℕ) (f : LexFault) → old.met ≡ None → new.met ≡ Some f
    → IsToldOf f (tokens_from old.place old.comment (taken_in old.comment (old.waiting ++ piece)))
    → Feeds old (old.waiting ++ piece) new (Err f)
faulty-parts old new piece faults.OutOfMemory unmet met h = (met, inl unmet)
faulty-parts old new piece (faults.BadByte o l c) unmet met h = record { met = met; first = inr (unmet, h) }
faulty-parts old new piece (faults.BadUtf8 o l c) unmet met h = record { met = met; first = inr (unmet, h) }
faulty-parts old new piece (faults.LongNumber o l c) unmet met h = record { met = met; first = inr (unmet, h) }
faulty-parts old new piece (faults.LongName o l c) unmet met h = record { met = met; first = inr (unmet, h) }

pub fault-parts : (old new : Parts) (piece : List ℕ) (f : LexFault) → old.met ≡ None → new.met ≡ Some f
    → IsToldOf f (tokens_from old.place old.comment (taken_in old.comment (old.waiting ++ piece)))
    → Feeds old (old.waiting ++ piece) new (Err f) × KeepsLaw old piece new (Err f)
fault-parts old new piece f unmet met h = let a = faulty-parts old new piece f unmet met h in
    (a, keeps-fault old new piece f a)

-- the rest of a text
pub rest-all : (p : Place) (going : Bool) (bytes text : List ℕ) (whole : Bool) (r : Result (Vec OwnedToken) LexFault)
    → chars text ≡ valid_chars bytes → whole ≡ (utf8_valid_len bytes == length bytes)
    → TakesAll p going whole (chars text) r → TakesRest p going bytes r
unfolding tokens_from
rest-all p going bytes text whole r same all h = by r h
  where
    here : lex whole p (comment_len going (chars text)) (chars text) ≡ tokens_from p going bytes
    here = λ i. lex (all i) p (comment_len going (same i)) (same i)

    by : (r : Result (Vec OwnedToken) LexFault) → TakesAll p going whole (chars text) r → TakesRest p going bytes r
    by (Ok v) h = sym here ∙ h
    by (Err f) h = subst (IsToldOf f) here h

pub whole-is : (bytes : List ℕ) → IsUtf8 bytes → true ≡ (utf8_valid_len bytes == length bytes)
whole-is bytes utf8 = sym (eq-eqb _ _ (utf8_valid_len-IsUtf8 bytes utf8))

pub whole-not : (bytes : List ℕ) (n : ℕ) → n ≡ utf8_valid_len bytes → n < length bytes
    → false ≡ (utf8_valid_len bytes == length bytes)
whole-not bytes n is short = sym (ne_eqb _ _ (λ e. omega (arith, e, is, short)))

-- no byte is lost
pub count-parts : (p : Place) (going : Bool) (bytes : List ℕ) (t : Batch) → IsTaking p going bytes t
    → t.place.offset + length t.waiting.items ≡ p.offset + length bytes
unfolding all_chars
count-parts p going bytes t h =
    let cs = valid_chars bytes in
    let kept = taken_chars (comment_len going cs) cs in
    let w = encode_utf8_all (held_chars (comment_len going cs) cs) ++ after_valid bytes in
    let far = pass_all-offset p kept in
    let behind : IsBehind p t.place (length (encode_utf8_all kept)) = subst
    (λ (q : Place). IsBehind p q (length (encode_utf8_all kept))) (sym h.place) far in
    let all : length bytes ≡ length (encode_utf8_all kept) + length w = ap length (bytes-parts going bytes)
    ∙ length-append (encode_utf8_all kept) w in
    let wait : length t.waiting.items ≡ length w = ap length (h.waiting ∙ waiting-cut going bytes h.cut) in
    omega (arith, behind.offset, all, wait)
