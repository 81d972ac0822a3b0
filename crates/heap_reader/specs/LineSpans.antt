-- How many tokens the lines of a program have, the one token after a part counted in, over the span of a variable.
use Rattle.std.specs.Prelude.{ℕ, ◌+◌}
use Rattle.heap_syntax.specs.declared.lines.tree.OperandTree.{OperandTree}
use Rattle.heap_syntax.specs.declared.lines.tree.OperandTree.TheVariants.{Nil, Variable}
use Rattle.heap_syntax.specs.declared.lines.tree.ChangeTree.{ChangeTree}
use Rattle.heap_syntax.specs.declared.lines.tree.ChangeTree.TheVariants.{New, Assign, Load, Store}
use Rattle.heap_syntax.specs.declared.lines.tree.CommandTree.{CommandTree}
use Rattle.heap_syntax.specs.declared.lines.tree.CommandTree.TheVariants.{Stop, Goto, Free, IfAny, If, StoreAtNil}
use Rattle.heap_syntax.specs.declared.lines.tree.CommandTree.TheVariants.{Change}
use Rattle.heap_syntax.specs.declared.lines.tree.LineTree.{LineTree}

abbrev pub operand_span : {V : Type 0} → (V → ℕ) → OperandTree V → ℕ
operand_span span Nil = 2
operand_span span (Variable v) = span v

-- what stands after the variable and the word after it, and the semicolon
abbrev pub change_span : {V : Type 0} → (V → ℕ) → ChangeTree V → ℕ
change_span span (New n) = 3
change_span span (Assign t) = operand_span span t
change_span span (Load t n) = operand_span span t + 2
change_span span (Store n t) = 2 + operand_span span t

-- the semicolon stands after a command
abbrev pub command_span : {V : Type 0} → (V → ℕ) → CommandTree V → ℕ
command_span span Stop = 2
command_span span (IfAny n) = 5
command_span span (Goto n) = 3
command_span span (Free t) = 1 + operand_span span t
command_span span (If t b u n) = 1 + operand_span span t + operand_span span u + 2
command_span span (StoreAtNil n t) = 4 + operand_span span t
command_span span (Change v c) = span v + change_span span c

-- "line", the number, ":" and the command; nothing after it
abbrev pub line_span : {V : Type 0} → (V → ℕ) → LineTree V → ℕ
line_span span l = 3 + command_span span l.command
