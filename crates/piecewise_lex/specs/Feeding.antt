-- A text that comes in pieces: what of it waits for more, and what a value stands for that has taken some of it.
use Rattle.std.specs.Prelude.{◌≡◌, ℕ, zero, suc, ◌-◌, Bool, true, false, ◌==◌, ◌&&◌, ◌||◌, nat_le, List, [], ◌∷◌, ◌++◌}
use Rattle.std.specs.Prelude.{length, take, drop, Option, Some, None, is_none, Result, Ok, Err, ◌⊎◌, if◌then◌else◌}
use Rattle.std.specs.Str.{chars, encode_utf8_all}
use Rattle.std.specs.Str.Lossy.{utf8_valid_len, utf8_error_len}
use Rattle.cyc_lex.specs.declared.place.Place.{Place}
use Rattle.cyc_lex.specs.declared.place.Piece.{Piece}
use Rattle.cyc_lex.specs.declared.place.Piece.TheVariants as pieces
use Rattle.cyc_lex.specs.declared.place.Bad.{Bad}
use Rattle.cyc_lex.specs.declared.fault.LexFault.{LexFault}
use Rattle.cyc_lex.specs.declared.fault.LexFault.TheVariants as faults
use Rattle.cyc_lex.specs.declared.token.Kind.TheVariants.{End}
use Rattle.cyc_lex.specs.Placed.{Placed}
use Rattle.cyc_lex.specs.Lexing.{start, pass, pass_all, piece_at, taken, lex, token_at, comment_len}
use Rattle.cyc_lex.specs.Answer.{fault_of}

-- ---- which characters wait

-- whether more characters may change what begins with c: a token, and a '!' or '-', which alone is none
abbrev pub may_grow : Piece → ℕ → Bool
may_grow pieces.Gap c = false
may_grow pieces.Stray c = (c == 33) || (c == 45)
may_grow (pieces.Token kind) c = true

-- whether what begins with c, with the characters cs after it, touches their end and waits there
unfoldable pub is_held : ℕ → List ℕ → Bool
is_held c cs = nat_le (length cs) (piece_at c cs).1 && may_grow (piece_at c cs).0 c

-- of characters, the first k of which belong to a piece that was taken: those that are taken
unfoldable pub taken_chars : ℕ → List ℕ → List ℕ
taken_chars k [] = []
taken_chars (suc k) (c ∷ cs) = c ∷ taken_chars k cs
taken_chars zero (c ∷ cs) = if is_held c cs then [] else c ∷ taken_chars (piece_at c cs).1 cs

-- those that wait
unfoldable pub held_chars : ℕ → List ℕ → List ℕ
held_chars k [] = []
held_chars (suc k) (c ∷ cs) = held_chars k cs
held_chars zero (c ∷ cs) = if is_held c cs then c ∷ cs else held_chars (piece_at c cs).1 cs

-- whether those that are taken end in a comment that goes on; the first k belong to one where comment says so
unfoldable pub ends_in_comment : Bool → ℕ → List ℕ → Bool
ends_in_comment comment k [] = comment
ends_in_comment comment (suc k) (c ∷ cs) = ends_in_comment comment k cs
ends_in_comment comment zero (c ∷ cs) = if is_held c cs then false else ends_in_comment (c == 35) (piece_at c cs).1 cs

-- the tokens of those that are taken, with no end token
unfoldable pub tokens_taken : Place → ℕ → List ℕ → Result (List Placed) (Bad × Place)
tokens_taken p k [] = Ok []
tokens_taken p (suc k) (c ∷ cs) = tokens_taken (pass p c) k cs
tokens_taken p zero (c ∷ cs) = if is_held c cs then Ok [] else taken (piece_at c cs).0 p
    (encode_utf8_all (c ∷ take (piece_at c cs).1 cs)) (tokens_taken (pass p c) (piece_at c cs).1 cs)

-- ---- bytes

-- the characters up to the first byte that begins no whole character
unfoldable pub valid_chars : List ℕ → List ℕ
valid_chars bytes = chars (take (utf8_valid_len bytes) bytes)

-- the bytes from that one on
abbrev pub after_valid : List ℕ → List ℕ
after_valid bytes = drop (utf8_valid_len bytes) bytes

-- whether the bytes end there, or within a character that more bytes may complete
abbrev pub is_cut : List ℕ → Bool
is_cut bytes = is_none (utf8_error_len (after_valid bytes))

-- the tokens of bytes that stand at p, where a comment goes on or none does
unfoldable pub tokens_from : Place → Bool → List ℕ → Result (List Placed) (Bad × Place)
tokens_from p comment bytes = let cs = valid_chars bytes in
    lex (utf8_valid_len bytes == length bytes) p (comment_len comment cs) cs

-- the bytes that wait: a character that is cut in two, and before it a token, a '!' or a '-' that touches it or the end
unfoldable pub waiting_in : Bool → List ℕ → List ℕ
waiting_in comment bytes = let cs = valid_chars bytes in
    if is_cut bytes then encode_utf8_all (held_chars (comment_len comment cs) cs) ++ after_valid bytes else []

-- the bytes without those that wait
unfoldable pub taken_in : Bool → List ℕ → List ℕ
taken_in comment bytes = take (length bytes - length (waiting_in comment bytes)) bytes

-- whether a comment goes on after the bytes that are taken
unfoldable pub comment_after : Bool → List ℕ → Bool
comment_after comment bytes = let cs = valid_chars bytes in ends_in_comment comment (comment_len comment cs) cs

-- ---- a lexer

-- the bytes that wait; the place after what was taken; whether a comment goes on there; the fault that was met, if any,
-- or that memory ran out
pub record Parts : Type 0 where
  pub waiting : List ℕ
  pub place : Place
  pub comment : Bool
  pub met : Option LexFault

abbrev pub fresh : Parts
fresh = record { waiting = []; place = start; comment = false; met = None }

-- a list of tokens, or the fault of the bad place
abbrev pub told : Result (List Placed) (Bad × Place) → Result (List Placed) LexFault
told (Ok ts) = Ok ts
told (Err e) = Err (fault_of e.0 e.1)

-- what is defined from the parts, if these bytes come, and then the end
abbrev pub defined_by : Option LexFault → Result (List Placed) LexFault → Result (List Placed) LexFault
defined_by None r = r
defined_by (Some f) r = Err f

abbrev pub defined : Parts → List ℕ → Result (List Placed) LexFault
defined s rest = defined_by s.met (told (tokens_from s.place s.comment (s.waiting ++ rest)))

-- tokens that were handed out, and what is defined after them
abbrev pub followed_by : List Placed → Result (List Placed) LexFault → Result (List Placed) LexFault
followed_by ts (Ok us) = Ok (ts ++ us)
followed_by ts (Err f) = Err f

-- what was defined for the piece and the rest is the tokens handed out, and then what is defined for the rest; a fault
-- is that of both, whatever comes; where memory ran out, nothing is handed out from then on
abbrev pub KeepsLaw : Parts → List ℕ → Parts → Result (List Placed) LexFault → Type 0
KeepsLaw old piece new (Ok ts) = (rest : List ℕ) → defined old (piece ++ rest) ≡ followed_by ts (defined new rest)
KeepsLaw old piece new (Err faults.OutOfMemory) = new.met ≡ Some faults.OutOfMemory
KeepsLaw old piece new (Err f) = (rest : List ℕ) → (defined old (piece ++ rest) ≡ Err f) × (defined new rest ≡ Err f)

-- the tokens that are handed out are those of the bytes that are taken, the end token aside; and the parts after them
pub record IsFed (old : Parts) (bytes : List ℕ) (new : Parts) (ts : List Placed) : Type 0 where
  pub unmet : old.met ≡ None
  pub tokens : tokens_from old.place old.comment (taken_in old.comment bytes)
      ≡ Ok (ts ++ token_at End new.place [] ∷ [])
  pub waiting : new.waiting ≡ waiting_in old.comment bytes
  pub place : new.place ≡ pass_all old.place (chars (taken_in old.comment bytes))
  pub comment : new.comment ≡ comment_after old.comment bytes
  pub met : new.met ≡ None

-- the fault was met before, or it is the first of the bytes that are taken
pub record IsFaulty (old : Parts) (bytes : List ℕ) (new : Parts) (f : LexFault) : Type 0 where
  pub met : new.met ≡ Some f
  pub first : (old.met ≡ Some f) ⊎ ((old.met ≡ None) × (told
      (tokens_from old.place old.comment (taken_in old.comment bytes)) ≡ Err f))

-- what is answered where the bytes that waited and the piece are these
abbrev pub Feeds : Parts → List ℕ → Parts → Result (List Placed) LexFault → Type 0
Feeds old bytes new (Ok ts) = IsFed old bytes new ts
Feeds old bytes new (Err faults.OutOfMemory) = (new.met ≡ Some faults.OutOfMemory)
    × ((old.met ≡ None) ⊎ (old.met ≡ Some faults.OutOfMemory))
Feeds old bytes new (Err f) = IsFaulty old bytes new f
