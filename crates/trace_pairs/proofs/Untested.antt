-- The first node that was not tested.
use Rattle.std.proofs.Common.{◌≡◌, ℕ, Bool, true, false, List, refl, arith}
use Rattle.std.specs.Prelude.{nat_lt}
use Rattle.std.proofs.lemmas.Bool.{leb-true, leb-false, ltb-true, ltb-false}
use Rattle.trace_pairs.specs.Graph.{Node}
use Rattle.trace_pairs.specs.System.{IsLeastFaulty, is_untested}

-- the least node that was not tested is the number of those that were
pub least_untested : (g : List Node) (n v : ℕ) → IsLeastFaulty g (is_untested n) v → n ≡ v
least_untested g n v least = by_test (nat_lt n v) refl
  where
    by_test : (b : Bool) → nat_lt n v ≡ b → n ≡ v
    by_test true t = absurd (let l = leb-false n n (least.least n (ltb-true n v t)) in omega arith)
    by_test false t = let a = ltb-false n v t in let b = leb-true n v least.is_faulty in omega arith
