-- How a loop that reads items ends.
use Rattle.std.proofs.Common.{◌≡◌, ℕ, zero, suc, Bool, false, List, Ok, sym, ap, ◌∙◌}
use Rattle.std.proofs.lemmas.List.{append-nil}
use Rattle.cyc_lex.specs.Word.{Word}
use Rattle.cyc_grammar.specs.Syntax.{Reading, Syntax, begins, read_many}
use Rattle.cyc_grammar.specs.Giving.{with_front}

-- no item is next
pub stops : {A : Type 0} (test : Word → Bool) (a : Syntax A) (front : List A) (n : ℕ) (ts : List Word)
    (total : Reading (List A)) → begins test ts ≡ false → with_front front (read_many test a n ts) ≡ total
    → total ≡ Ok (front, ts)
stops {A = A} test a front n ts total none so_far = sym so_far ∙ by_count n
  where
    by_count : (k : ℕ) → with_front front (read_many test a k ts) ≡ Ok (front, ts)
    by_count zero = rw none (ap (λ (xs : List A). Ok (xs, ts)) (append-nil front))
    by_count (suc k) = rw none (ap (λ (xs : List A). Ok (xs, ts)) (append-nil front))
