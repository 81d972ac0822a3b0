-- What lines as trees say, over the number of a variable.
use Rattle.std.specs.Prelude.{ℕ, true, false, List, map}
use Rattle.heap_formula.specs.declared.terms.Term.{Term}
use Rattle.heap_formula.specs.declared.terms.Term.TheVariants.{Univ, Nil as NilTerm}
use Rattle.heap_formula.specs.declared.commands.Command.{Command}
use Rattle.heap_formula.specs.declared.commands.Command.TheVariants as commands
use Rattle.goto_lang.specs.Lines.{commands_of}
use Rattle.heap_syntax.specs.declared.lines.tree.OperandTree.{OperandTree}
use Rattle.heap_syntax.specs.declared.lines.tree.OperandTree.TheVariants.{Nil, Variable}
use Rattle.heap_syntax.specs.declared.lines.tree.ChangeTree.{ChangeTree}
use Rattle.heap_syntax.specs.declared.lines.tree.ChangeTree.TheVariants.{New, Assign, Load, Store}
use Rattle.heap_syntax.specs.declared.lines.tree.CommandTree.{CommandTree}
use Rattle.heap_syntax.specs.declared.lines.tree.CommandTree.TheVariants.{Stop, Goto, Free, IfAny, If, StoreAtNil}
use Rattle.heap_syntax.specs.declared.lines.tree.CommandTree.TheVariants.{Change}
use Rattle.heap_syntax.specs.declared.lines.tree.LineTree.{LineTree}

abbrev pub operand_value : {V : Type 0} → (V → ℕ) → OperandTree V → Term
operand_value value Nil = NilTerm
operand_value value (Variable v) = Univ (value v)

-- what is done to variable x
abbrev pub change_value : {V : Type 0} → (V → ℕ) → ℕ → ChangeTree V → Command
change_value value x (New n) = commands.New x n
change_value value x (Assign t) = commands.Assign x (operand_value value t)
change_value value x (Load t n) = commands.Load x (operand_value value t) n
change_value value x (Store n t) = commands.Store (Univ x) n (operand_value value t)

abbrev pub command_value : {V : Type 0} → (V → ℕ) → CommandTree V → Command
command_value value Stop = commands.Stop
command_value value (IfAny n) = commands.IfAny n
command_value value (Goto n) = commands.Goto n
command_value value (Free t) = commands.Free (operand_value value t)
command_value value (If t true u n) = commands.IfEq (operand_value value t) (operand_value value u) n
command_value value (If t false u n) = commands.IfNeq (operand_value value t) (operand_value value u) n
command_value value (StoreAtNil n t) = commands.Store NilTerm n (operand_value value t)
command_value value (Change v c) = change_value value (value v) c

abbrev pub line_value : {V : Type 0} → (V → ℕ) → LineTree V → ℕ × Command
line_value value l = (l.number, command_value value l.command)

-- a variable that is its number
abbrev pub variable_value : ℕ → ℕ
variable_value n = n

-- the commands of the lines
abbrev pub program_value : List (LineTree ℕ) → List Command
program_value ls = commands_of (map (line_value variable_value) ls)
