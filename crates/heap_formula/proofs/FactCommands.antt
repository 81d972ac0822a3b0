-- A command of a program names no variable past the program's.
use Rattle.std.proofs.Common.{◌≡◌, ℕ, zero, suc, ◌≤◌, List, [], ◌∷◌, Some, slice_get, ap, arith}
use Rattle.heap_formula.specs.declared.commands.Command.{Command}
use Rattle.heap_formula.specs.Programs.{counted_from_one, command_bound, program_variables}

pub bound_at : (lines : List Command) (i : ℕ) (x : Command) → counted_from_one lines i ≡ Some x
    → command_bound x ≤ program_variables lines
bound_at lines zero x at = cc
bound_at lines (suc i) x at = among lines i x at
  where
    among : (lines : List Command) (i : ℕ) (x : Command) → slice_get lines i ≡ Some x
        → command_bound x ≤ program_variables lines
    among [] i x at = cc
    among (y ∷ ys) zero x at = let same : y ≡ x = cc in let e = ap command_bound same in omega arith
    among (y ∷ ys) (suc i) x at = let rest = among ys i x at in omega arith
