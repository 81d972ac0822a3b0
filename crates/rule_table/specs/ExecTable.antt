-- Exec: the first fault, or the premises with their trace pairs.
use Rattle.std.specs.Prelude.{ℕ, suc, ◌+◌, ◌-◌, List, [], ◌∷◌, ◌++◌, cond, Option, Some, None, Ok, slice_set}
use Rattle.cyc_basics.specs.declared.limits.Limits.{Limits}
use Rattle.heap_formula.specs.declared.terms.Term.{Term}
use Rattle.heap_formula.specs.declared.terms.Term.TheVariants.{Univ}
use Rattle.heap_formula.specs.declared.atoms.Pure.{Pure}
use Rattle.heap_formula.specs.declared.atoms.Pure.TheVariants.{Eq, Neq}
use Rattle.heap_formula.specs.declared.atoms.Spatial.{Spatial}
use Rattle.heap_formula.specs.declared.atoms.Spatial.TheVariants.{Cell, Pred}
use Rattle.heap_formula.specs.declared.commands.Command.{Command}
use Rattle.heap_formula.specs.declared.commands.Command.TheVariants.{Assign, Load, Store, New, Free, IfEq, IfNeq, IfAny}
use Rattle.heap_formula.specs.declared.commands.Command.TheVariants.{Goto, Stop, Ends}
use Rattle.heap_formula.specs.declared.judgements.Judgement.{Judgement}
use Rattle.heap_formula.specs.declared.judgements.Judgement.TheVariants.{Term as Runs}
use Rattle.heap_formula.specs.declared.judgements.Premise.{Premise}
use Rattle.heap_formula.specs.declared.proof_rules.RuleFault.TheVariants.{NoCell, WrongJudgement}
use Rattle.heap_formula.specs.Symbolic.{SymbolicHeap}
use Rattle.heap_formula.specs.Fresh.{fresh_number, variables_from}
use Rattle.heap_formula.specs.Programs.{counted_from_one, program_variables}
use Rattle.heap_formula.specs.Positions.{same_pairs, kept_pairs}
use Rattle.heap_formula.specs.Substitution.{apply_term, apply_heap}
use Rattle.rule_table.specs.Answer.{Answer, finds, runs, limited, one, two}
use Rattle.rule_table.specs.Tests.{equated}
use Rattle.rule_table.specs.Table.{without_spatial, with_right}

-- a cell of a list, with its place
pub record Found : Type 0 where
  pub place : ℕ
  pub address : Term
  pub fields : List Term

-- the same cell of a list with one more atom in front
abbrev pub later : Option Found → Option Found
later None = None
later (Some c) = Some (record { place = suc c.place; address = c.address; fields = c.fields })

-- the first cell whose address is t, or stands with t in an equation of the list
abbrev pub cell_of : List Pure → Term → List Spatial → Option Found
cell_of pures t [] = None
cell_of pures t (Pred q us ∷ xs) = later (cell_of pures t xs)
cell_of pures t (Cell u us ∷ xs) =
    cond (equated pures u t) (Some (record { place = 0; address = u; fields = us })) (later (cell_of pures t xs))

-- x := .. : the old value of x is variable n
abbrev pub renamed : ℕ → ℕ → SymbolicHeap → SymbolicHeap
renamed x n a = apply_heap ((x, Univ n) ∷ []) a

-- the same for a term
abbrev pub renamed_term : ℕ → ℕ → Term → Term
renamed_term x n t = apply_term ((x, Univ n) ∷ []) t

-- with one more pure atom
abbrev pub with_atom : SymbolicHeap → Pure → SymbolicHeap
with_atom a x = record { pure = a.pure ++ x ∷ []; spatial = a.spatial }

-- with one more cell
abbrev pub with_cell : SymbolicHeap → ℕ → List Term → SymbolicHeap
with_cell a x us = record { pure = a.pure; spatial = a.spatial ++ Cell (Univ x) us ∷ [] }

-- field k of the cell is t
abbrev pub with_field : SymbolicHeap → Found → ℕ → Term → SymbolicHeap
with_field a c k t =
    record { pure = a.pure; spatial = slice_set a.spatial c.place (Cell c.address (slice_set c.fields (k - 1) t)) }

-- at line i after b, with the atoms of a at their places
abbrev pub at_line : ℕ → SymbolicHeap → SymbolicHeap → Premise
at_line i a b = record { judgement = Runs i b; pairs = same_pairs a.spatial }

-- the command at line i, from a, n being fresh
abbrev pub command_answer : Limits → ℕ → SymbolicHeap → ℕ → Command → Answer
command_answer most i a n Stop = Ok []
command_answer most i a n (Ends bs) = limited most (one (with_right a bs))
command_answer most i a n (IfAny j) = limited most (two (at_line j a a) (at_line (i + 1) a a))
command_answer most i a n (Goto j) = limited most (one (at_line j a a))
command_answer most i a n (IfEq t u j) =
    limited most (two (at_line j a (with_atom a (Eq t u))) (at_line (i + 1) a (with_atom a (Neq t u))))
command_answer most i a n (IfNeq t u j) =
    limited most (two (at_line j a (with_atom a (Neq t u))) (at_line (i + 1) a (with_atom a (Eq t u))))
command_answer most i a n (Assign x t) =
    limited most (one (at_line (i + 1) a (with_atom (renamed x n a) (Eq (Univ x) (renamed_term x n t)))))
command_answer most i a n (Load x t k) =
    finds (cell_of a.pure t a.spatial) NoCell (λ c.
    finds (counted_from_one c.fields k) NoCell (λ f.
    limited most (one (at_line (i + 1) a (with_atom (renamed x n a) (Eq (Univ x) (renamed_term x n f)))))))
command_answer most i a n (Store t k u) =
    finds (cell_of a.pure t a.spatial) NoCell (λ c.
    finds (counted_from_one c.fields k) NoCell (λ f.
    limited most (one (at_line (i + 1) a (with_field a c k u)))))
command_answer most i a n (New x k) =
    limited most (one (at_line (i + 1) a (with_cell (renamed x n a) x (variables_from (n + 1) k))))
command_answer most i a n (Free t) =
    finds (cell_of a.pure t a.spatial) NoCell (λ c.
    limited most (one (record {
      judgement = Runs (i + 1) (without_spatial c.place a);
      pairs = kept_pairs c.place a.spatial;
    })))

-- the caller has a line of the program: the fault where there is none is never met
abbrev pub exec_answer : Limits → List Command → Judgement → Answer
exec_answer most lines j =
    runs j (λ i a.
    finds (counted_from_one lines i) WrongJudgement (λ c.
    command_answer most i a (fresh_number (program_variables lines) j) c))
