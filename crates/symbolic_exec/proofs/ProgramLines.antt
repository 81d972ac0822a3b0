-- What the lines of a program give: its commands are as the table wants them, and each premise is at a line.
use Rattle.std.proofs.Common.{◌≡◌, ℕ, suc, ◌+◌, ◌<◌, ◌≤◌, List, [], ◌∷◌, length, Some, refl, subst, arith}
use Rattle.std.specs.Prelude.{slice_get, Result, Ok, Err, Vec, IfOk}
use Rattle.std.specs.declared.alloc.Global.{Global}
use Rattle.cyc_basics.specs.declared.limits.Limits.{Limits}
use Rattle.heap_formula.specs.declared.atoms.Pure.TheVariants.{Eq, Neq}
use Rattle.heap_formula.specs.declared.terms.Term.TheVariants.{Univ}
use Rattle.heap_formula.specs.declared.commands.Command.{Command}
use Rattle.heap_formula.specs.declared.commands.Command.TheVariants.{Assign, Load, Store, New, Free, IfEq, IfNeq, IfAny}
use Rattle.heap_formula.specs.declared.commands.Command.TheVariants.{Goto, Stop, Ends}
use Rattle.heap_formula.specs.declared.judgements.Judgement.{Judgement}
use Rattle.heap_formula.specs.declared.judgements.Judgement.TheVariants.{Entail, Term as Runs}
use Rattle.heap_formula.specs.declared.judgements.Premise.{Premise}
use Rattle.heap_formula.specs.declared.proof_rules.Rule.TheVariants.{Exec}
use Rattle.heap_formula.specs.declared.proof_rules.RuleError.{RuleError}
use Rattle.heap_formula.specs.declared.proof_rules.RuleFault.TheVariants.{NoCell, WrongJudgement}
use Rattle.heap_formula.specs.Closedness.{IsUniversalHeap}
use Rattle.heap_formula.specs.Definitions.{Definition}
use Rattle.heap_formula.specs.Judgements.{IsLocallySound, antecedent}
use Rattle.heap_formula.specs.Positions.{kept_pairs}
use Rattle.heap_formula.specs.Programs.{counted_from_one, program_variables}
use Rattle.heap_formula.specs.Fresh.{fresh_number, variables_from}
use Rattle.heap_formula.specs.Symbolic.{SymbolicHeap}
use Rattle.heap_formula.specs.Words.{Each}
use Rattle.goto_lang.specs.Lines.{IsUniversalCommand, MayStandAt, IsLineOf, IsProgram}
use Rattle.rule_table.specs.Answer.{Answer, one, two}
use Rattle.rule_table.specs.Answered.{IsAnswer}
use Rattle.rule_table.specs.Table.{with_right}
use Rattle.rule_table.specs.ExecTable.{cell_of, renamed, renamed_term, with_atom, with_cell, with_field, at_line}
use Rattle.rule_table.specs.ExecTable.{command_answer, exec_answer}
use Rattle.rule_table.specs.Fits.{OnPremises}
use Rattle.rule_table.specs.Soundness.{IsSound, IsCommand, IsUniversalPremise}
use Rattle.rule_table.specs.Table.{without_spatial}
use Rattle.rule_table.proofs.Commands.{exec_is_sound}
use Rattle.rule_table.proofs.Fits.{finds_on, limited_on}
use Rattle.rule_table.proofs.Keeps.{rule_keeps}
use Rattle.symbolic_exec.specs.States.{new_fields}
use Rattle.symbolic_exec.specs.Lines.{IsPremiseAtLine}

abbrev HasFields : Command → Type 0
HasFields (New x k) = 0 < k
HasFields _ = Unit {0}

has_fields : (n i : ℕ) (c : Command) → MayStandAt n i c → HasFields c
has_fields n i (Assign x t) m = tt
has_fields n i (Load x t k) m = tt
has_fields n i (Store t k u) m = tt
has_fields n i (New x k) m = m.1.0
has_fields n i (Free t) m = tt
has_fields n i (IfEq t u j) m = tt
has_fields n i (IfNeq t u j) m = tt
has_fields n i (IfAny j) m = tt
has_fields n i (Goto j) m = tt
has_fields n i Stop m = tt
has_fields n i (Ends bs) m = tt

is_command : (c : Command) → HasFields c → IsUniversalCommand c → IsCommand c
is_command (Assign x t) f u = u
is_command (Load x t k) f u = u
is_command (Store t k v) f u = u
is_command (New x k) f u = f
is_command (Free t) f u = u
is_command (IfEq t v j) f u = u
is_command (IfNeq t v j) f u = u
is_command (IfAny j) f u = tt
is_command (Goto j) f u = tt
is_command Stop f u = tt
is_command (Ends bs) f u = tt

are_commands : (cs : List Command) → ((i : ℕ) (c : Command) → slice_get cs i ≡ Some c → HasFields c)
    → Each IsUniversalCommand cs → Each IsCommand cs
are_commands [] f u = tt
are_commands (c ∷ cs) f u = (is_command c (f 0 c refl) u.0, are_commands cs (λ i. f (suc i)) u.1)

pub program_commands : (lines : List Command) → IsProgram lines → Each IsCommand lines
program_commands lines p =
    are_commands lines (λ i c at. has_fields (length lines) (suc i) c (p.commands (suc i) c at)) p.universal

-- ---- a line of the program

few_new : (n i : ℕ) (c : Command) → MayStandAt n i c → new_fields c ≤ 8
few_new n i (Assign x t) m = omega arith
few_new n i (Load x t k) m = omega arith
few_new n i (Store t k u) m = omega arith
few_new n i (New x k) m = m.1.1
few_new n i (Free t) m = omega arith
few_new n i (IfEq t u j) m = omega arith
few_new n i (IfNeq t u j) m = omega arith
few_new n i (IfAny j) m = omega arith
few_new n i (Goto j) m = omega arith
few_new n i Stop m = omega arith
few_new n i (Ends bs) m = omega arith

pub few_fields : (lines : List Command) → IsProgram lines → (i : ℕ) (c : Command) → counted_from_one lines i ≡ Some c
    → new_fields c ≤ 8
few_fields lines p i c at = few_new (length lines) i c (p.commands i c at)

-- ---- what the call says of its premises

pub exec_sound : (most : Limits) (lines : List Command) (j : Judgement) (r : Result (Vec Premise Global) RuleError)
    → IsProgram lines → IsAnswer r (exec_answer most lines j)
    → IfOk r (λ v. (ds : List Definition) → IsLocallySound ds lines j v.items)
exec_sound most lines j (Ok v) p is = λ ds. subst (λ (x : Answer). IsSound ds lines j x) is
    (exec_is_sound ds lines most j (program_commands lines p))
exec_sound most lines j (Err e) p is = tt

pub exec_keeps : (most : Limits) (lines : List Command) (j : Judgement) (r : Result (Vec Premise Global) RuleError)
    → IsProgram lines → IsAnswer r (exec_answer most lines j)
    → IfOk r (λ v. IsUniversalHeap (antecedent j) → Each IsUniversalPremise v.items)
exec_keeps most lines j (Ok v) p is = λ u. subst (λ (x : Answer). OnPremises IsUniversalPremise x) is
    (rule_keeps most [] lines j Exec u (program_commands lines p) tt)
exec_keeps most lines j (Err e) p is = tt

-- ---- the lines of the premises

module _ (n i : ℕ) (a : SymbolicHeap) (m : ℕ) where
  next : i < n → IsLineOf n (i + 1)
  next h = (omega arith, omega arith)

  command_lines : (most : Limits) (c : Command) → MayStandAt n i c
      → OnPremises (IsPremiseAtLine n) (command_answer most i a m c)
  command_lines most Stop h = tt
  command_lines most (Ends bs) h = limited_on (IsPremiseAtLine n) most (one (with_right a bs)) (tt, tt)
  command_lines most (Goto j) h = limited_on (IsPremiseAtLine n) most (one (at_line j a a)) (h, tt)
  command_lines most (IfEq t u j) h =
      limited_on (IsPremiseAtLine n) most (two (at_line j a (with_atom a (Eq t u)))
      (at_line (i + 1) a (with_atom a (Neq t u)))) (h.1, (next h.0, tt))
  command_lines most (IfNeq t u j) h =
      limited_on (IsPremiseAtLine n) most (two (at_line j a (with_atom a (Neq t u)))
      (at_line (i + 1) a (with_atom a (Eq t u)))) (h.1, (next h.0, tt))
  command_lines most (IfAny j) h =
      limited_on (IsPremiseAtLine n) most (two (at_line j a a) (at_line (i + 1) a a)) (h.1, (next h.0, tt))
  command_lines most (Assign x t) h =
      limited_on (IsPremiseAtLine n) most (one (at_line (i + 1) a
      (with_atom (renamed x m a) (Eq (Univ x) (renamed_term x m t))))) (next h, tt)
  command_lines most (Load x t k) h =
      finds_on (IsPremiseAtLine n) (cell_of a.pure t a.spatial) NoCell _ (λ c found.
      finds_on (IsPremiseAtLine n) (counted_from_one c.fields k) NoCell _ (λ f field.
      limited_on (IsPremiseAtLine n) most (one (at_line (i + 1) a
      (with_atom (renamed x m a) (Eq (Univ x) (renamed_term x m f))))) (next h.0, tt)))
  command_lines most (Store t k u) h =
      finds_on (IsPremiseAtLine n) (cell_of a.pure t a.spatial) NoCell _ (λ c found.
      finds_on (IsPremiseAtLine n) (counted_from_one c.fields k) NoCell _ (λ f field.
      limited_on (IsPremiseAtLine n) most (one (at_line (i + 1) a (with_field a c k u))) (next h.0, tt)))
  command_lines most (New x k) h =
      limited_on (IsPremiseAtLine n) most (one (at_line (i + 1) a
      (with_cell (renamed x m a) x (variables_from (m + 1) k)))) (next h.0, tt)
  command_lines most (Free t) h =
      finds_on (IsPremiseAtLine n) (cell_of a.pure t a.spatial) NoCell _ (λ c found.
      limited_on (IsPremiseAtLine n) most (one (record {
        judgement = Runs (i + 1) (without_spatial c.place a);
        pairs = kept_pairs c.place a.spatial;
      })) (next h, tt))

pub answer_lines : (most : Limits) (lines : List Command) (j : Judgement) → IsProgram lines
    → OnPremises (IsPremiseAtLine (length lines)) (exec_answer most lines j)
answer_lines most lines (Entail a bs) p = tt
answer_lines most lines (Runs i a) p =
    finds_on (IsPremiseAtLine (length lines)) (counted_from_one lines i) WrongJudgement _
    (λ c at. command_lines (length lines) i a (fresh_number (program_variables lines) (Runs i a)) most c
    (p.commands i c at))

pub exec_lines : (most : Limits) (lines : List Command) (j : Judgement) (r : Result (Vec Premise Global) RuleError)
    → IsProgram lines → IsAnswer r (exec_answer most lines j)
    → IfOk r (λ v. Each (IsPremiseAtLine (length lines)) v.items)
exec_lines most lines j (Ok v) p is = subst (λ (x : Answer). OnPremises (IsPremiseAtLine (length lines)) x) is
    (answer_lines most lines j p)
exec_lines most lines j (Err e) p is = tt
