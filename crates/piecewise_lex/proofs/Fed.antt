-- From what is taken of bytes to the law of a lexer.
use Rattle.std.proofs.Common.{◌≡◌, ◌⊎◌, ℕ, Bool, true, false, List, [], ◌∷◌, ◌++◌, Some, None, Result, Ok, Err, refl}
use Rattle.std.proofs.Common.{sym, ap, subst, ◌∙◌, inl, inr, ⊎_elim, append_assoc}
use Rattle.std.proofs.lemmas.Bool.{cases_Bool}
use Rattle.std.specs.Str.{chars}
use Rattle.std.proofs.lemmas.Str.{chars-encodes}
use Rattle.cyc_lex.specs.declared.token.Kind.TheVariants.{End}
use Rattle.cyc_lex.specs.declared.place.Place.{Place}
use Rattle.cyc_lex.specs.declared.place.Bad.{Bad}
use Rattle.cyc_lex.specs.declared.fault.LexFault.{LexFault}
use Rattle.cyc_lex.specs.Placed.{Placed}
use Rattle.cyc_lex.specs.Lexing.{pass_all, token_at, with_tokens, ended, tokens_of}
use Rattle.piecewise_lex.specs.Feeding.{is_cut, tokens_from, waiting_in, taken_in, comment_after, Parts, fresh, told}
use Rattle.piecewise_lex.specs.Feeding.{defined, defined_by, followed_by, IsFed, IsFaulty, Feeds, KeepsLaw, valid_chars}
use Rattle.cyc_lex.specs.Lexing.{comment_len}
use Rattle.cyc_lex.specs.declared.fault.LexFault.TheVariants as faults
use Rattle.piecewise_lex.specs.Batches.{Finishes}
use Rattle.piecewise_lex.specs.Law.{Call, AreCalls, bytes_of, then_answer, answer_of, Tells}
use Rattle.cyc_lex.proofs.Lexed.{Found, with_tokens-ok, with_tokens-err}
use Rattle.piecewise_lex.proofs.Carrying.{then_tokens}
use Rattle.piecewise_lex.proofs.Extending.{handed, kept, place_behind, taken-cut, taken-bad, taken-tokens, more-bytes}
use Rattle.piecewise_lex.proofs.Extending.{stays-tokens, good-parts}

-- what is taken of the bytes at p
pub record IsTaken (p : Place) (going : Bool) (bytes : List ℕ) (ts : List Placed) (q : Place) : Type 0 where
  pub cut : is_cut bytes ≡ true
  pub tokens : handed going bytes p ≡ Ok ts
  pub place : q ≡ place_behind going bytes p

-- these are the tokens of the bytes that are taken, with the end token after them
pub of-taken : (p : Place) (going : Bool) (bytes : List ℕ) (ts : List Placed) (q : Place) → IsTaken p going bytes ts q
    → tokens_from p going (taken_in going bytes) ≡ Ok (ts ++ token_at End q [] ∷ [])
of-taken p going bytes ts q h =
    taken-tokens going bytes p h.cut
    ∙ ap (λ r. then_tokens r (ended true (place_behind going bytes p))) h.tokens
    ∙ with_tokens-ok ts (token_at End (place_behind going bytes p) [] ∷ [])
    ∙ ap (λ (x : Place). Ok (ts ++ token_at End x [] ∷ [])) (sym h.place)

-- their place
pub place-taken : (p : Place) (going : Bool) (bytes : List ℕ) (ts : List Placed) (q : Place)
    → IsTaken p going bytes ts q → q ≡ pass_all p (chars (taken_in going bytes))
place-taken p going bytes ts q h = h.place ∙ ap (pass_all p)
    (sym (ap chars (taken-cut going bytes h.cut) ∙ chars-encodes (kept going bytes) (good-parts going bytes).0))

-- whatever comes
pub more-taken : (p : Place) (going : Bool) (bytes : List ℕ) (ts : List Placed) (q : Place) (rest : List ℕ)
    → IsTaken p going bytes ts q → tokens_from p going (bytes ++ rest)
    ≡ with_tokens ts (tokens_from q (comment_after going bytes) (waiting_in going bytes ++ rest))
more-taken p going bytes ts q rest h =
    more-bytes going bytes p rest h.cut
    ∙ ap (λ r. then_tokens r (tokens_from (place_behind going bytes p) (comment_after going bytes)
    (waiting_in going bytes ++ rest))) h.tokens
    ∙ ap (λ (x : Place). with_tokens ts (tokens_from x (comment_after going bytes) (waiting_in going bytes ++ rest)))
    (sym h.place)

failed : (a : Found) (b : Found) (e : Bad × Place) (us : List Placed) → then_tokens a (Ok us) ≡ Err e
    → then_tokens a b ≡ Err e
failed (Ok ts) b e us h = absurd (by (with_tokens-ok ts us) h)
  where
    by : with_tokens ts (Ok us) ≡ Ok (ts ++ us) → with_tokens ts (Ok us) ≡ Err e → ⊥
    by x y = differ (sym x ∙ y)
      where
        differ : Ok (ts ++ us) ≡ Err e → ⊥
        differ z = cc
failed (Err d) b e us h = h

-- the first bad place of what is taken stays so, whatever comes
pub fault-stays : (p : Place) (going : Bool) (bytes rest : List ℕ) (e : Bad × Place)
    → tokens_from p going (taken_in going bytes) ≡ Err e → tokens_from p going (bytes ++ rest) ≡ Err e
fault-stays p going bytes rest e h = ⊎_elim
    (λ (cut : is_cut bytes ≡ true).
    more-bytes going bytes p rest cut ∙ failed (handed going bytes p) _ e
    (token_at End (place_behind going bytes p) [] ∷ []) (sym (taken-tokens going bytes p cut) ∙ h))
    (λ (bad : is_cut bytes ≡ false).
    stays-tokens bytes rest bad p going ∙ ap (tokens_from p going) (sym (taken-bad going bytes bad)) ∙ h)
    (cases_Bool (is_cut bytes))

told-tokens : (ts : List Placed) (r : Found) → told (with_tokens ts r) ≡ followed_by ts (told r)
told-tokens ts (Ok us) = ap told (with_tokens-ok ts us)
told-tokens ts (Err e) = ap told (with_tokens-err ts e)

-- ---- the law of one call

-- the parts after a call that was answered Ok
pub fed : (old new : Parts) (piece : List ℕ) (ts : List Placed) → old.met ≡ None → new.met ≡ None
    → new.waiting ≡ waiting_in old.comment (old.waiting ++ piece)
    → new.comment ≡ comment_after old.comment (old.waiting ++ piece)
    → IsTaken old.place old.comment (old.waiting ++ piece) ts new.place
    → IsFed old (old.waiting ++ piece) new ts
fed old new piece ts unmet met waiting comment h =
    let bytes = old.waiting ++ piece in
    record {
      unmet = unmet;
      tokens = of-taken old.place old.comment bytes ts new.place h;
      waiting = waiting;
      place = place-taken old.place old.comment bytes ts new.place h;
      comment = comment;
      met = met;
    }

pub keeps : (old new : Parts) (piece : List ℕ) (ts : List Placed) → old.met ≡ None → new.met ≡ None
    → new.waiting ≡ waiting_in old.comment (old.waiting ++ piece)
    → new.comment ≡ comment_after old.comment (old.waiting ++ piece)
    → IsTaken old.place old.comment (old.waiting ++ piece) ts new.place
    → KeepsLaw old piece new (Ok ts)
keeps old new piece ts unmet met waiting comment h rest =
    let bytes = old.waiting ++ piece in
    let left : defined old (piece ++ rest) ≡ told (tokens_from old.place old.comment (bytes ++ rest)) =
    ap (λ m. defined_by m (told (tokens_from old.place old.comment (old.waiting ++ (piece ++ rest))))) unmet
    ∙ ap (λ (b : List ℕ). told (tokens_from old.place old.comment b)) (sym (append_assoc old.waiting piece rest)) in
    let right : defined new rest ≡ told (tokens_from new.place (comment_after old.comment bytes)
    (waiting_in old.comment bytes ++ rest)) =
    λ i. defined_by (met i) (told (tokens_from new.place (comment i) (waiting i ++ rest))) in
    left
    ∙ ap told (more-taken old.place old.comment bytes ts new.place rest h)
    ∙ told-tokens ts (tokens_from new.place (comment_after old.comment bytes) (waiting_in old.comment bytes ++ rest))
    ∙ ap (followed_by ts) (sym right)

-- a fault is that of all that may come
pub stays-faulty : (old new : Parts) (piece rest : List ℕ) (f : LexFault) → IsFaulty old (old.waiting ++ piece) new f
    → (defined old (piece ++ rest) ≡ Err f) × (defined new rest ≡ Err f)
stays-faulty old new piece rest f h = (
  by h.first,
  ap (λ m. defined_by m
      (told (tokens_from new.place new.comment (new.waiting ++ rest)))) h.met,
)
  where
    from-told : (r s : Found) → ((e : Bad × Place) → r ≡ Err e → s ≡ Err e) → told r ≡ Err f → told s ≡ Err f
    from-told (Ok us) s k e = absurd cc
    from-told (Err d) s k e = ap told (k d refl) ∙ e

    by : (old.met ≡ Some f) ⊎ ((old.met ≡ None) × (told (tokens_from old.place old.comment
        (taken_in old.comment (old.waiting ++ piece))) ≡ Err f)) → defined old (piece ++ rest) ≡ Err f
    by (inl m) = ap (λ m. defined_by m (told (tokens_from old.place old.comment (old.waiting ++ (piece ++ rest))))) m
    by (inr p) =
        ap (λ m. defined_by m (told (tokens_from old.place old.comment (old.waiting ++ (piece ++ rest))))) p.0
        ∙ ap (λ (b : List ℕ). told (tokens_from old.place old.comment b)) (sym (append_assoc old.waiting piece rest))
        ∙ from-told (tokens_from old.place old.comment (taken_in old.comment (old.waiting ++ piece)))
        (tokens_from old.place old.comment ((old.waiting ++ piece) ++ rest))
        (λ e k. fault-stays old.place old.comment (old.waiting ++ piece) rest e k) p.1

-- the law follows from the answer, where it is a fault
pub keeps-fault : (old new : Parts) (piece : List ℕ) (f : LexFault) → Feeds old (old.waiting ++ piece) new (Err f)
    → KeepsLaw old piece new (Err f)
keeps-fault old new piece faults.OutOfMemory h = h.0
keeps-fault old new piece (faults.BadByte o l c) h = λ rest. stays-faulty old new piece rest (faults.BadByte o l c) h
keeps-fault old new piece (faults.BadUtf8 o l c) h = λ rest. stays-faulty old new piece rest (faults.BadUtf8 o l c) h
keeps-fault old new piece (faults.LongNumber o l c) h = λ rest.
    stays-faulty old new piece rest (faults.LongNumber o l c) h
keeps-fault old new piece (faults.LongName o l c) h = λ rest. stays-faulty old new piece rest (faults.LongName o l c) h

-- a new lexer stands for what it will be fed
pub from-fresh : (bytes : List ℕ) → defined fresh bytes ≡ told (tokens_of bytes)
unfolding tokens_from comment_len valid_chars
from-fresh bytes = refl

-- ---- many calls

tells-after : (ts : List Placed) (a r : Result (List Placed) LexFault) → Tells a r
    → Tells (followed_by ts a) (followed_by ts r)
tells-after ts (Ok us) r h = ap (followed_by ts) h
tells-after ts (Err faults.OutOfMemory) r h = tt
tells-after ts (Err (faults.BadByte o l c)) r h = ap (followed_by ts) h
tells-after ts (Err (faults.BadUtf8 o l c)) r h = ap (followed_by ts) h
tells-after ts (Err (faults.LongNumber o l c)) r h = ap (followed_by ts) h
tells-after ts (Err (faults.LongName o l c)) r h = ap (followed_by ts) h

tells-end : (s : Parts) (last : Result (List Placed) LexFault) → Finishes s last → Tells last (defined s [])
tells-end s (Ok ts) h = h
tells-end s (Err faults.OutOfMemory) h = tt
tells-end s (Err (faults.BadByte o l c)) h = h
tells-end s (Err (faults.BadUtf8 o l c)) h = h
tells-end s (Err (faults.LongNumber o l c)) h = h
tells-end s (Err (faults.LongName o l c)) h = h

-- what one call answers, and then the others
tells-call : (old mid : Parts) (piece more : List ℕ) (answer others : Result (List Placed) LexFault)
    → KeepsLaw old piece mid answer → Tells others (defined mid more)
    → Tells (then_answer answer others) (defined old (piece ++ more))
tells-call old mid piece more (Ok ts) others law h = subst (Tells (followed_by ts others)) (sym (law more))
    (tells-after ts others (defined mid more) h)
tells-call old mid piece more (Err faults.OutOfMemory) others law h = tt
tells-call old mid piece more (Err (faults.BadByte o l c)) others law h = (law more).0
tells-call old mid piece more (Err (faults.BadUtf8 o l c)) others law h = (law more).0
tells-call old mid piece more (Err (faults.LongNumber o l c)) others law h = (law more).0
tells-call old mid piece more (Err (faults.LongName o l c)) others law h = (law more).0

pub tells-all : (old new : Parts) (calls : List Call) (last : Result (List Placed) LexFault) → AreCalls old calls new
    → Finishes new last → Tells (answer_of calls last) (defined old (bytes_of calls))
tells-all old new [] last h ends = subst (λ (s : Parts). Tells last (defined s [])) h (tells-end new last ends)
tells-all old new (call ∷ calls) last h ends = tells-call old h.0 call.piece (bytes_of calls) call.answer
    (answer_of calls last) h.1 (tells-all h.0 new calls last h.2 ends)

pub tells-tokens : (new : Parts) (calls : List Call) (last : Result (List Placed) LexFault) → AreCalls fresh calls new
    → Finishes new last → Tells (answer_of calls last) (told (tokens_of (bytes_of calls)))
tells-tokens new calls last h ends = subst (Tells (answer_of calls last)) (from-fresh (bytes_of calls))
    (tells-all fresh new calls last h ends)
