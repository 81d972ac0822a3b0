-- What feeding a text in pieces comes to.
use Rattle.std.specs.Str.{chars}
use Rattle.cyc_lex.specs.declared.place.Stop.TheVariants as stops
use Rattle.cyc_lex.specs.Lexing.{lex, comment_len}
use Rattle.piecewise_lex.specs.Feeding.{valid_chars, after_valid, is_cut}
use Rattle.piecewise_lex.specs.Taking.{reading, tokens_in}
use Rattle.piecewise_lex.proofs.Fed.{fault-stays}
use Rattle.piecewise_lex.proofs.Takes.{takes-bytes, stops-bad}
use Rattle.std.proofs.Common.{◌≡◌, Bool, true, false, ℕ, List, [], ◌∷◌, ◌++◌, Result, Ok, Err, refl, sym, ap, subst}
use Rattle.std.proofs.Common.{◌∙◌, inl, inr, append_assoc}
use Rattle.cyc_lex.specs.declared.fault.ReadFault.{ReadFault}
use Rattle.cyc_lex.specs.declared.fault.ReadFault.TheVariants as faults
use Rattle.cyc_lex.specs.declared.place.Bad.{Bad}
use Rattle.cyc_lex.specs.declared.place.Place.{Place}
use Rattle.cyc_lex.specs.Answer.{fault_of}
use Rattle.cyc_lex.specs.Lexing.{with_tokens}
use Rattle.cyc_lex.specs.Placed.{Placed}
use Rattle.cyc_lex.proofs.Lexed.{with_tokens-ok, with_tokens-err}
use Rattle.piecewise_lex.specs.Feeding.{tokens_from}
use Rattle.proof_file.specs.declared.file.ProofFile.{ProofFile}
use Rattle.proof_file.specs.Reading.{Reads}
use Rattle.file_reader.specs.Outcomes.{Outcome, Faulty}
use Rattle.file_reader.specs.Stages.{Stage, Head, Nodes, Dead, Unlexed, Lost, Parts, fresh, behind, outcome}
use Rattle.file_reader.specs.Steps.{Takes}
use Rattle.file_reader.specs.Pieces.{Tells, KeepsLaw, AreFed, bytes_of, parts, IsOpen, Comes, IsBad}
use Rattle.file_reader.proofs.Fresh.{fresh-read}
use Rattle.std.proofs.lemmas.List.{append-nil}

-- ---- bytes and tokens

pub piece-waits : (s : Parts) (piece rest : List ℕ)
    → outcome s (piece ++ rest) ≡ outcome (parts s.stage s.place s.comment (s.pending ++ piece)) rest
piece-waits s piece rest = ap (λ bytes. behind s.stage (tokens_from s.place s.comment bytes))
    (sym (append_assoc s.pending piece rest))

open-bad : (s : Stage) → IsOpen s → (e : Bad × Place) → behind s (Err e) ≡ Faulty (faults.Lex (fault_of e.0 e.1))
open-bad (Head front) h e = refl
open-bad (Nodes b) h e = refl
open-bad (Dead fault) h e = refl
open-bad (Unlexed fault) h e = absurd h
open-bad Lost h e = absurd h

pub tokens-taken : (old new : Parts) (ts : List Placed) → IsOpen old.stage → IsOpen new.stage
    → Takes old.stage ts new.stage → Comes old ts new → (rest : List ℕ) → outcome old rest ≡ outcome new rest
tokens-taken old new ts h k takes comes rest = ap (behind old.stage) (comes rest)
    ∙ by (tokens_from new.place new.comment (new.pending ++ rest))
  where
    by : (r : Result (List Placed) (Bad × Place)) → behind old.stage (with_tokens ts r) ≡ behind new.stage r
    by (Ok us) = ap (behind old.stage) (with_tokens-ok ts us) ∙ takes us
    by (Err e) = ap (behind old.stage) (with_tokens-err ts e) ∙ open-bad old.stage h e ∙ sym (open-bad new.stage k e)

pub bad-place : (old new : Parts) (bad : Bad) (p : Place) → IsOpen old.stage → IsBad old bad p
    → new.stage ≡ Unlexed (fault_of bad p) → (rest : List ℕ) → outcome old rest ≡ outcome new rest
bad-place old new bad p h is unlexed rest =
    ap (behind old.stage) (is rest) ∙ open-bad old.stage h (bad, p)
    ∙ by (tokens_from new.place new.comment (new.pending ++ rest))
    ∙ ap (λ (s : Stage). behind s (tokens_from new.place new.comment (new.pending ++ rest))) (sym unlexed)
  where
    by : (r : Result (List Placed) (Bad × Place)) → Faulty (faults.Lex (fault_of bad p))
        ≡ behind (Unlexed (fault_of bad p)) r
    by (Ok us) = refl
    by (Err e) = refl

-- ---- many pieces

lost-tells : (s : Parts) (rest : List ℕ) (o : Outcome) (answer : Result ProofFile ReadFault) → s.stage ≡ Lost
    → Tells (outcome s rest) answer → Tells o answer
lost-tells s rest o answer lost h = by answer (subst (λ (x : Outcome). Tells x answer)
    (ap (λ (t : Stage). behind t (tokens_from s.place s.comment (s.pending ++ rest))) lost
    ∙ none (tokens_from s.place s.comment (s.pending ++ rest))) h)
  where
    none : (r : Result (List Placed) (Bad × Place)) → behind Lost r ≡ Faulty faults.OutOfMemory
    none (Ok us) = refl
    none (Err e) = refl

    by : (a : Result ProofFile ReadFault) → Tells (Faulty faults.OutOfMemory) a → Tells o a
    by (Ok f) k = absurd k
    by (Err faults.OutOfMemory) k = tt
    by (Err (faults.Lex fault)) k = absurd cc
    by (Err (faults.Syntax n l c)) k = absurd cc
    by (Err (faults.IllFormed fault n l c)) k = absurd cc
    by (Err (faults.Limit what n l c)) k = absurd cc

fed-tells : (old new : Parts) (pieces : List (List ℕ)) (answer : Result ProofFile ReadFault) → AreFed old pieces new
    → Tells (outcome new []) answer → Tells (outcome old (bytes_of pieces)) answer
fed-tells old new [] answer fed h = subst (λ (s : Parts). Tells (outcome s []) answer) fed h
fed-tells old new (piece ∷ pieces) answer (mid, inl keeps, fed) h = subst (λ (o : Outcome). Tells o answer)
    (sym (keeps (bytes_of pieces))) (fed-tells mid new pieces answer fed h)
fed-tells old new (piece ∷ pieces) answer (mid, inr lost, fed) h = lost-tells mid (bytes_of pieces)
    (outcome old (piece ++ bytes_of pieces)) answer lost (fed-tells mid new pieces answer fed h)

told-reads : (bytes : List ℕ) (answer : Result ProofFile ReadFault) → Tells (outcome fresh bytes) answer
    → Reads bytes answer
told-reads bytes (Ok f) h = fresh-read bytes (Ok f) h
told-reads bytes (Err faults.OutOfMemory) h = tt
told-reads bytes (Err (faults.Lex fault)) h = fresh-read bytes (Err (faults.Lex fault)) h
told-reads bytes (Err (faults.Syntax k l c)) h = fresh-read bytes (Err (faults.Syntax k l c)) h
told-reads bytes (Err (faults.IllFormed fault k l c)) h = fresh-read bytes (Err (faults.IllFormed fault k l c)) h
told-reads bytes (Err (faults.Limit what k l c)) h = fresh-read bytes (Err (faults.Limit what k l c)) h

pub pieces-read : (pieces : List (List ℕ)) (new : Parts) (answer : Result ProofFile ReadFault) → AreFed fresh pieces new
    → Tells (outcome new []) answer → Reads (bytes_of pieces) answer
pieces-read pieces new answer fed h = told-reads (bytes_of pieces) answer (fed-tells fresh new pieces answer fed h)

-- a text that is fed as one piece
pub one-piece : (bytes : List ℕ) (new : Parts) (answer : Result ProofFile ReadFault) → KeepsLaw fresh bytes new
    → Tells (outcome new []) answer → Reads bytes answer
one-piece bytes new answer keeps h =
    told-reads bytes answer (subst (λ (o : Outcome). Tells o answer)
    (sym (ap (outcome fresh) (sym (append-nil bytes)) ∙ keeps [])) h)

-- ---- the tokens of one statement, at the front of a text after which bytes stand that make no character yet

pub statement-comes : (stage after : Stage) (p q : Place) (c d : Bool) (text rest tail : List ℕ) (ts : List Placed)
    → ((more : List ℕ) → tokens_from p c (text ++ more) ≡ with_tokens ts (tokens_from q d (rest ++ more)))
    → Comes (parts stage p c (text ++ tail)) ts (parts after q d (rest ++ tail))
statement-comes stage after p q c d text rest tail ts law more =
    ap (tokens_from p c) (append_assoc text tail more) ∙ law (tail ++ more)
    ∙ ap (λ bytes. with_tokens ts (tokens_from q d bytes)) (sym (append_assoc rest tail more))

pub statement-bad : (stage : Stage) (p q : Place) (c : Bool) (bytes text : List ℕ) (bad : Bad)
    → chars text ≡ valid_chars bytes → is_cut bytes ≡ true → tokens_in (reading p c text) ≡ Err (bad, q)
    → IsBad (parts stage p c bytes) bad q
statement-bad stage p q c bytes text bad same cut e more =
    fault-stays p c bytes more (bad, q) (takes-bytes p c bytes text (after_valid bytes) (Err (stops.At bad q))
    same refl cut e)

pub bytes-bad : (stage : Stage) (p q : Place) (c : Bool) (bytes text : List ℕ) (bad : Bad)
    → chars text ≡ valid_chars bytes → is_cut bytes ≡ false → lex false p (comment_len c (chars text)) (chars text)
    ≡ Err (bad, q) → IsBad (parts stage p c bytes) bad q
bytes-bad stage p q c bytes text bad same whole e more =
    fault-stays p c bytes more (bad, q) (stops-bad p c bytes text (stops.At bad q) same whole e)
