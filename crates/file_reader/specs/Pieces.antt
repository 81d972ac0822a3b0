-- A text that a reader is fed in pieces.
use Rattle.std.specs.Prelude.{◌≡◌, ℕ, ◌+◌, Bool, List, [], ◌∷◌, ◌++◌, length, Result, Ok, Err, ◌⊎◌}
use Rattle.cyc_lex.specs.declared.fault.ReadFault.{ReadFault}
use Rattle.cyc_lex.specs.declared.fault.ReadFault.TheVariants as faults
use Rattle.cyc_lex.specs.declared.place.Bad.{Bad}
use Rattle.cyc_lex.specs.declared.place.Place.{Place}
use Rattle.cyc_lex.specs.Lexing.{with_tokens}
use Rattle.cyc_lex.specs.Placed.{Placed}
use Rattle.piecewise_lex.specs.Feeding.{tokens_from}
use Rattle.proof_file.specs.declared.file.ProofFile.{ProofFile}
use Rattle.file_reader.specs.Outcomes.{Outcome, Agrees}
use Rattle.file_reader.specs.Stages.{Stage, Head, Nodes, Dead, Unlexed, Lost, Parts, outcome}

-- the answer is the outcome, out of memory being free
abbrev pub Tells : Outcome → Result ProofFile ReadFault → Type 0
Tells o (Ok f) = Agrees o (Ok f)
Tells o (Err faults.OutOfMemory) = Unit {0}
Tells o (Err (faults.Lex fault)) = Agrees o (Err (faults.Lex fault))
Tells o (Err (faults.Syntax k l c)) = Agrees o (Err (faults.Syntax k l c))
Tells o (Err (faults.IllFormed fault k l c)) = Agrees o (Err (faults.IllFormed fault k l c))
Tells o (Err (faults.Limit what k l c)) = Agrees o (Err (faults.Limit what k l c))

-- how many bytes were fed so far
abbrev pub bytes_fed : Parts → ℕ
bytes_fed s = s.place.offset + length s.pending

-- memory ran out
abbrev pub IsLost : Parts → Type 0
IsLost s = s.stage ≡ Lost

-- a piece was fed: what the text came to, with the piece and the rest, it comes to with the rest
abbrev pub KeepsLaw : Parts → List ℕ → Parts → Type 0
KeepsLaw old piece new = (rest : List ℕ) → outcome old (piece ++ rest) ≡ outcome new rest

-- the pieces were fed one after the other; where memory ran out, the reader knows
abbrev pub AreFed : Parts → List (List ℕ) → Parts → Type 0
AreFed old [] new = new ≡ old
AreFed old (piece ∷ pieces) new = (mid : Parts) × (KeepsLaw old piece mid ⊎ IsLost mid) × AreFed mid pieces new

abbrev pub bytes_of : List (List ℕ) → List ℕ
bytes_of [] = []
bytes_of (piece ∷ pieces) = piece ++ bytes_of pieces

-- ---- tokens that are taken of the bytes that wait

abbrev pub parts : Stage → Place → Bool → List ℕ → Parts
parts stage p comment pending = record { stage = stage; place = p; comment = comment; pending = pending }

-- a lexical fault that comes later goes before all that is known so far
abbrev pub IsOpen : Stage → Type 0
IsOpen (Head front) = Unit {0}
IsOpen (Nodes b) = Unit {0}
IsOpen (Dead fault) = Unit {0}
IsOpen (Unlexed fault) = ⊥
IsOpen Lost = ⊥

-- the tokens stand at the front of the bytes of the first reader, whatever comes; the second has the bytes after them
abbrev pub Comes : Parts → List Placed → Parts → Type 0
Comes old ts new =
    (more : List ℕ) → tokens_from old.place old.comment (old.pending ++ more)
    ≡ with_tokens ts (tokens_from new.place new.comment (new.pending ++ more))

-- the bytes have this first bad place, whatever comes
abbrev pub IsBad : Parts → Bad → Place → Type 0
IsBad s bad p = (more : List ℕ) → tokens_from s.place s.comment (s.pending ++ more) ≡ Err (bad, p)
