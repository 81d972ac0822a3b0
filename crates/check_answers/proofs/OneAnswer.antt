-- An input has one answer, be it too long or not.
use Rattle.std.proofs.Common.{◌≡◌, ◌≤◌, ℕ, List, length, arith, inl, inr, sym, ◌∙◌}
use Rattle.cyc_runs.specs.declared.endings.Status.{Status}
use Rattle.cyc_runs.specs.Runs.{Answering, IsAnswerOf, input_limit}

-- what has one answer for each input within the limit has one beside the answer to an input that is too long
pub one_of : (answers : Answering) (AreOne : List ℕ → List ℕ → Type 0) → ((xs ys : List ℕ) → xs ≡ ys → AreOne xs ys)
    → ((input : List ℕ) (s t : Status) (xs ys : List ℕ) → answers input s xs → answers input t ys
    → (s ≡ t) × AreOne xs ys) → ((input : List ℕ) (s : Status) (xs : List ℕ) → answers input s xs
    → length input ≤ input_limit) → (input : List ℕ) (s t : Status) (xs ys : List ℕ) → IsAnswerOf answers input s xs
    → IsAnswerOf answers input t ys → (s ≡ t) × AreOne xs ys
one_of answers AreOne same one short input s t xs ys (inl first) (inl second) =
    (first.1 ∙ sym second.1, same xs ys (first.2 ∙ sym second.2))
one_of answers AreOne same one short input s t xs ys (inr first) (inr second) = one input s t xs ys first second
one_of answers AreOne same one short input s t xs ys (inl first) (inr second) = absurd
    (omega (arith, first.0, short input t ys second))
one_of answers AreOne same one short input s t xs ys (inr first) (inl second) = absurd
    (omega (arith, short input s xs first, second.0))
