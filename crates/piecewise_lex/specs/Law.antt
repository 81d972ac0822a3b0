-- Many calls of one lexer, and what they come to.
use Rattle.std.specs.Prelude.{◌≡◌, ℕ, List, [], ◌∷◌, ◌++◌, Result, Ok, Err}
use Rattle.cyc_lex.specs.declared.fault.LexFault.{LexFault}
use Rattle.cyc_lex.specs.declared.fault.LexFault.TheVariants as faults
use Rattle.cyc_lex.specs.Placed.{Placed}
use Rattle.piecewise_lex.specs.Feeding.{Parts, KeepsLaw, followed_by}

-- a call of feed: the piece, and the tokens or the fault that it was answered with
pub record Call : Type 0 where
  pub piece : List ℕ
  pub answer : Result (List Placed) LexFault

-- the calls were made one after the other, and each keeps the law
abbrev pub AreCalls : Parts → List Call → Parts → Type 0
AreCalls old [] new = new ≡ old
AreCalls old (call ∷ calls) new = (mid : Parts) × KeepsLaw old call.piece mid call.answer × AreCalls mid calls new

-- the pieces, joined
abbrev pub bytes_of : List Call → List ℕ
bytes_of [] = []
bytes_of (call ∷ calls) = call.piece ++ bytes_of calls

-- one answer, and then what comes after it
abbrev pub then_answer : Result (List Placed) LexFault → Result (List Placed) LexFault → Result (List Placed) LexFault
then_answer (Ok ts) r = followed_by ts r
then_answer (Err f) r = Err f

-- the tokens of all answers and of the last, or the first fault
abbrev pub answer_of : List Call → Result (List Placed) LexFault → Result (List Placed) LexFault
answer_of [] last = last
answer_of (call ∷ calls) last = then_answer call.answer (answer_of calls last)

-- the answer is this one, unless memory ran out
abbrev pub Tells : Result (List Placed) LexFault → Result (List Placed) LexFault → Type 0
Tells (Ok ts) r = r ≡ Ok ts
Tells (Err faults.OutOfMemory) r = Unit {0}
Tells (Err (faults.BadByte o l c)) r = r ≡ Err (faults.BadByte o l c)
Tells (Err (faults.BadUtf8 o l c)) r = r ≡ Err (faults.BadUtf8 o l c)
Tells (Err (faults.LongNumber o l c)) r = r ≡ Err (faults.LongNumber o l c)
Tells (Err (faults.LongName o l c)) r = r ≡ Err (faults.LongName o l c)
