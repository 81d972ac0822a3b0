-- A case as contracts see it.
use Rattle.std.specs.Prelude.{ℕ, ◌+◌, Bool, true, false, List, [], ◌∷◌, Result, Ok, Err, nat_le, if◌then◌else◌}
use Rattle.heap_formula.specs.declared.atoms.Pure.{Pure}
use Rattle.script_formulas.specs.declared.formula.ScriptAtom.{ScriptAtom}
use Rattle.script_formulas.specs.declared.cases.refused.Unsupported.{Unsupported}
use Rattle.script_formulas.specs.declared.cases.refused.Unsupported.TheVariants.{Quantifiers}

-- the number of its quantified variables, whether it says nothing of the heap, and its atoms
pub record SymbolicCase : Type 0 where
  pub quantified : ℕ
  pub any_heap : Bool
  pub pure : List Pure
  pub atoms : List ScriptAtom

abbrev pub open_case : SymbolicCase
open_case = record { quantified = 0; any_heap = true; pure = []; atoms = [] }

abbrev pub empty_case : SymbolicCase
empty_case = record { quantified = 0; any_heap = false; pure = []; atoms = [] }

abbrev pub pure_case : Pure → SymbolicCase
pure_case p = record { quantified = 0; any_heap = true; pure = p ∷ []; atoms = [] }

abbrev pub atom_case : ScriptAtom → SymbolicCase
atom_case a = record { quantified = 0; any_heap = false; pure = []; atoms = a ∷ [] }

-- an answer, or why there is none
abbrev pub Answer : Type 0 → Type 0
Answer A = Result A Unsupported

-- what comes of an answer
abbrev pub after : {A B : Type 0} → Answer A → (A → Answer B) → Answer B
after (Ok a) f = f a
after (Err e) f = Err e

-- the case below one more quantifier
abbrev pub one_more : SymbolicCase → Answer SymbolicCase
one_more c =
    if nat_le 1024 c.quantified then Err Quantifiers
    else Ok (record { quantified = c.quantified + 1; any_heap = c.any_heap; pure = c.pure; atoms = c.atoms })

abbrev pub all_one_more : List SymbolicCase → Answer (List SymbolicCase)
all_one_more [] = Ok []
all_one_more (c ∷ cs) = after (one_more c) (λ d. after (all_one_more cs) (λ ds. Ok (d ∷ ds)))
