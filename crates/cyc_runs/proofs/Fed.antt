-- Bytes that a tool is fed, one piece after the other.
use Rattle.std.proofs.Common.{◌≡◌, ◌∙◌, ℕ, ◌+◌, ◌-◌, ◌≤◌, List, [], ◌++◌, length-append, append_assoc, append-nil, sym}
use Rattle.std.proofs.Common.{subst, ap, arith, inl, inr, Option, Some, None}
use Rattle.std.specs.Io.KnownBytes.{Consumes, IsAtEnd}
use Rattle.std.proofs.KnownBytes.{Consumes-trans}
use Rattle.cyc_io.specs.Bytes.{Came, CameAtMost}
use Rattle.cyc_runs.specs.Texts.{input_limit_text}
use Rattle.cyc_runs.specs.Runs.{Answering, AnswersTold, IsAnswerOf, IsTold, input_limit}
use Rattle.cyc_runs.specs.Pieces.{IsTurn, WasFed}
use Rattle.cyc_runs.specs.declared.pieces.Turn.TheVariants.{Fed}
use Rattle.cyc_runs.specs.declared.endings.Status.{Status}
use Rattle.cyc_runs.specs.declared.endings.Status.TheVariants.{Limit}
use Rattle.cyc_runs.proofs.Told.{long_told}

-- some bytes, and then some more
pub fed_more : (a b c : Answering) (k n m : ℕ) (t u v : Option (List ℕ)) → WasFed a b k n t u → WasFed b c n m u v
    → WasFed a c k m t v
fed_more a b c k n m t u v first next = record {
  bytes = first.bytes ++ next.bytes;
  came = Consumes-trans t u v first.bytes next.bytes first.came next.came;
  count = omega (arith, first.count, next.count, length-append first.bytes next.bytes);
  answers = λ rest ending text answer.
      subst (λ xs. a xs ending text) (sym (append_assoc first.bytes next.bytes rest))
      (first.answers (next.bytes ++ rest) ending text (next.answers rest ending text answer));
}

-- a turn that fed a piece
pub turn_more : (a b c : Answering) (n after so_far : ℕ) (t u v : Option (List ℕ)) → WasFed a b 0 n t u
    → IsTurn b c n after u v (Fed so_far) → WasFed a c 0 so_far t v
turn_more a b c n after so_far t u v first turn = fed_more a b c 0 n so_far t u v first
    (subst (λ k. WasFed b c n k u v) turn.1 turn.0)

-- some bytes, and then more than an input may have
pub fed_past : (a b : Answering) (n : ℕ) (t u v : Option (List ℕ)) → WasFed a b 0 n t u → n ≤ input_limit
    → Came u v (input_limit + 1 - n) → Came t v (input_limit + 1)
fed_past a b n t u v first within came = (
  first.bytes ++ came.0,
  Consumes-trans t u v first.bytes came.0 first.came came.1,
  omega (arith, within, first.count, came.2, length-append first.bytes came.0),
)

-- some bytes, and then at most one past the limit
pub fed_taken : (a b : Answering) (n : ℕ) (t u v : Option (List ℕ)) → WasFed a b 0 n t u → n ≤ input_limit
    → CameAtMost u v (input_limit + 1 - n) → CameAtMost t v (input_limit + 1)
fed_taken a b n t u v first within came = (
  first.bytes ++ came.0,
  Consumes-trans t u v first.bytes came.0 first.came came.1,
  omega (arith, within, first.count, came.2, length-append first.bytes came.0),
)

-- what came before the end is what was told
told_all : (told left : Option (List ℕ)) (bytes : List ℕ) → Consumes told left bytes → IsAtEnd left → IsTold told bytes
told_all None left bytes came end = tt
told_all (Some xs) None bytes came end = absurd came
told_all (Some xs) (Some ys) bytes came end = came ∙ ap (λ l. bytes ++ l) end ∙ append-nil bytes

-- an answer after all of the input answers what was told
pub fed_answers : (a b : Answering) (n : ℕ) (told left : Option (List ℕ)) (ending : Status) (text : List ℕ)
    → WasFed a b 0 n told left → IsAtEnd left → b [] ending text → AnswersTold (IsAnswerOf a) told ending text
fed_answers a b n told left ending text fed end answer = (
  fed.bytes,
  told_all told left fed.bytes fed.came end,
  inr (subst (λ xs. a xs ending text) (append-nil fed.bytes) (fed.answers [] ending text answer)),
)

-- an input of which more came than it may have is answered so
pub past_answers : (a : Answering) (told left : Option (List ℕ)) (ending : Status) (text : List ℕ)
    → Came told left (input_limit + 1) → ending ≡ Limit → text ≡ input_limit_text
    → AnswersTold (IsAnswerOf a) told ending text
past_answers a told left ending text came ends said = let long = long_told told left came in
    (long.0, long.1, inl (long.2, ends, said))
