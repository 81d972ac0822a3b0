-- What is taken of bytes.
use Rattle.std.specs.Prelude.{◌≡◌, ℕ, Bool, true, List, [], ◌++◌, map, None, Some, Result, Ok, Err, ◌⊎◌}
use Rattle.std.specs.Str.{chars, encode_utf8_all}
use Rattle.cyc_lex.specs.declared.place.Place.{Place}
use Rattle.cyc_lex.specs.declared.place.Stop.{Stop}
use Rattle.cyc_lex.specs.declared.place.Bad.{Bad}
use Rattle.piecewise_lex.specs.declared.owned.OwnedToken.{OwnedToken}
use Rattle.std.specs.Global.{Vec}
use Rattle.cyc_lex.specs.declared.fault.LexFault.{LexFault}
use Rattle.cyc_lex.specs.declared.fault.LexFault.TheVariants as faults
use Rattle.piecewise_lex.specs.declared.batch.Batch.{Batch}
use Rattle.cyc_lex.specs.Placed.{Placed}
use Rattle.piecewise_lex.specs.Owned.{owned}
use Rattle.piecewise_lex.specs.Runs.{IsKnown}
use Rattle.cyc_lex.specs.Lexing.{pass_all, lex, Stops}
use Rattle.piecewise_lex.specs.Feeding.{taken_chars, held_chars, ends_in_comment, tokens_taken, valid_chars, is_cut}
use Rattle.piecewise_lex.specs.Feeding.{tokens_from, waiting_in, taken_in, comment_after, Parts, told, defined}
use Rattle.cyc_lex.specs.Lexing.{comment_len}

-- what is taken of the characters that stand at p; the tail waits after those that wait
pub record IsOfText (p : Place) (going : Bool) (cs tail : List ℕ) (t : Batch) : Type 0 where
  pub tokens : tokens_taken p (comment_len going cs) cs ≡ Ok (map owned t.tokens.items)
  pub place : t.place ≡ pass_all p (taken_chars (comment_len going cs) cs)
  pub comment : t.comment ≡ ends_in_comment going (comment_len going cs) cs
  pub waiting : t.waiting.items ≡ encode_utf8_all (held_chars (comment_len going cs) cs) ++ tail
  pub known : IsKnown t.comment t.waiting.items t.known

abbrev pub TakesText : Place → Bool → List ℕ → List ℕ → Result Batch Stop → Type 0
TakesText p going text tail (Ok t) = IsOfText p going (chars text) tail t
TakesText p going text tail (Err e) = Stops e (tokens_taken p (comment_len going (chars text)) (chars text))

-- what is taken of the bytes that stand at p
pub record IsTaking (p : Place) (going : Bool) (bytes : List ℕ) (t : Batch) : Type 0 where
  pub cut : is_cut bytes ≡ true
  pub tokens : tokens_taken p (comment_len going (valid_chars bytes)) (valid_chars bytes)
      ≡ Ok (map owned t.tokens.items)
  pub place : t.place ≡ pass_all p (taken_chars (comment_len going (valid_chars bytes)) (valid_chars bytes))
  pub comment : t.comment ≡ comment_after going bytes
  pub waiting : t.waiting.items ≡ waiting_in going bytes
  pub known : IsKnown t.comment t.waiting.items t.known

abbrev pub Takings : Place → Bool → List ℕ → Result Batch Stop → Type 0
Takings p going bytes (Ok t) = IsTaking p going bytes t
Takings p going bytes (Err e) = Stops e (tokens_from p going (taken_in going bytes))

-- the fault is that of these tokens, unless memory runs out
abbrev pub IsToldOf : LexFault → Result (List Placed) (Bad × Place) → Type 0
IsToldOf faults.OutOfMemory r = Unit {0}
IsToldOf f r = told r ≡ Err f

abbrev pub TakesPiece : Place → Bool → List ℕ → Result Batch LexFault → Type 0
TakesPiece p going bytes (Ok t) = IsTaking p going bytes t
TakesPiece p going bytes (Err f) = IsToldOf f (tokens_from p going (taken_in going bytes))

abbrev pub TakesAll : Place → Bool → Bool → List ℕ → Result (Vec OwnedToken) LexFault → Type 0
TakesAll p going whole cs (Ok v) = lex whole p (comment_len going cs) cs ≡ Ok (map owned v.items)
TakesAll p going whole cs (Err f) = IsToldOf f (lex whole p (comment_len going cs) cs)

abbrev pub TakesRest : Place → Bool → List ℕ → Result (Vec OwnedToken) LexFault → Type 0
TakesRest p going bytes (Ok v) = tokens_from p going bytes ≡ Ok (map owned v.items)
TakesRest p going bytes (Err f) = IsToldOf f (tokens_from p going bytes)

-- what a contract sees of an answer
abbrev pub seen : Result (Vec OwnedToken) LexFault → Result (List Placed) LexFault
seen (Ok v) = Ok (map owned v.items)
seen (Err f) = Err f

-- what is defined where nothing more comes, unless memory runs out
abbrev pub Finishes : Parts → Result (List Placed) LexFault → Type 0
Finishes s (Ok ts) = defined s [] ≡ Ok ts
Finishes s (Err faults.OutOfMemory) = (s.met ≡ None) ⊎ (s.met ≡ Some faults.OutOfMemory)
Finishes s (Err f) = defined s [] ≡ Err f
