-- Definitions within the limits have few cases.
use Rattle.std.proofs.Common.{ℕ, zero, suc, ◌≤◌, List, [], ◌∷◌, length, arith}
use Rattle.cyc_basics.specs.declared.limits.TheConstants.{MOST_CASES}
use Rattle.heap_formula.specs.Definitions.{Definition}
use Rattle.heap_formula.specs.Meaning.{cases_of}
use Rattle.heap_formula.specs.Words.{Each}
use Rattle.search_moves.specs.Limits.{IsSmall}

pub few_cases : (ds : List Definition) → Each IsSmall ds → (q : ℕ) → length (cases_of ds q) ≤ 65536
few_cases [] small q = omega arith
few_cases (d ∷ ds) small zero = let h : length d.cases ≤ MOST_CASES = small.0.cases in omega arith
few_cases (d ∷ ds) small (suc q) = few_cases ds small.1 q
