-- Symbolic states as the program makes them, and their sizes.
use Rattle.std.specs.Prelude.{ℕ, zero, suc, ◌+◌, ◌≤◌, min, List, [], ◌∷◌, length, Bool, ◌&&◌, nat_le}
use Rattle.cyc_basics.specs.Limits.{AreLimits}
use Rattle.cyc_basics.specs.declared.limits.Limits.{Limits}
use Rattle.cyc_basics.specs.declared.limits.TheConstants.{MOST_LINES}
use Rattle.heap_formula.specs.declared.terms.Term.{Term}
use Rattle.heap_formula.specs.declared.terms.Term.TheVariants.{Univ}
use Rattle.heap_formula.specs.declared.commands.Command.{Command}
use Rattle.heap_formula.specs.declared.commands.Command.TheVariants.{New}
use Rattle.heap_formula.specs.Symbolic.{SymbolicHeap}
use Rattle.symbolic_exec.specs.declared.commands.LineSetting.{LineSetting}
use Rattle.heap_formula.specs.declared.atoms.Pure.{Pure}
use Rattle.heap_formula.specs.declared.atoms.Pure.TheVariants.{Eq}
use Rattle.heap_formula.specs.declared.judgements.Premise.{Premise}
use Rattle.rule_table.specs.Answer.{two}
use Rattle.rule_table.specs.ExecTable.{at_line, with_atom, renamed, renamed_term}

-- the variables from n on, k of them; the number after the greatest stands for all that pass it
abbrev pub variables_up_to : ℕ → ℕ → List Term
variables_up_to n zero = []
variables_up_to n (suc k) = Univ (min n 65535) ∷ variables_up_to (suc n) k

-- within the limits with this many more pure atoms, and this many more spatial ones
abbrev pub has_room_for : Limits → ℕ → ℕ → SymbolicHeap → Bool
has_room_for most pure spatial a =
    nat_le (length a.pure + pure) most.pure && nat_le (length a.spatial + spatial) most.spatial

-- a line of a program, a number for a fresh variable, and a limit of some version
abbrev pub IsSetting : LineSetting → Type 0
IsSetting at = (at.line ≤ MOST_LINES) × (at.fresh ≤ 65536) × AreLimits at.most

-- the number of fields of a new cell, 0 where there is none
abbrev pub new_fields : Command → ℕ
new_fields (New x k) = k
new_fields _ = 0

-- the state after `x := t`: variable n stands for the old value of x
abbrev pub after_assignment : ℕ → ℕ → Term → SymbolicHeap → SymbolicHeap
after_assignment x n t a = with_atom (renamed x n a) (Eq (Univ x) (renamed_term x n t))

-- the target where an atom holds, the next line where the other does
abbrev pub branch_premises : LineSetting → ℕ → SymbolicHeap → Pure → Pure → List Premise
branch_premises at target a holds fails =
    two (at_line target a (with_atom a holds)) (at_line (at.line + 1) a (with_atom a fails))
