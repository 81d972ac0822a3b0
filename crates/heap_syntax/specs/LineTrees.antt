-- Trees of programs without where they lie in memory; V is the type of the variables.
use Rattle.heap_syntax.specs.declared.lines.tree.OperandTree.{OperandTree}
use Rattle.heap_syntax.specs.declared.lines.tree.OperandTree.TheVariants.{Nil, Variable}
use Rattle.heap_syntax.specs.declared.lines.tree.CommandTree.{CommandTree}
use Rattle.heap_syntax.specs.declared.lines.tree.CommandTree.TheVariants.{Stop, Goto, Free, IfAny, If, StoreAtNil}
use Rattle.heap_syntax.specs.declared.lines.tree.CommandTree.TheVariants.{Change}
use Rattle.heap_syntax.specs.declared.lines.tree.ChangeTree.{ChangeTree}
use Rattle.heap_syntax.specs.declared.lines.tree.ChangeTree.TheVariants.{New, Assign, Load, Store}
use Rattle.heap_syntax.specs.declared.lines.tree.LineTree.{LineTree}

-- ---- what a contract sees of the code's trees, where it sees each variable by seen

abbrev pub operand_of : {V W : Type 0} → (V → W) → OperandTree V → OperandTree W
operand_of seen Nil = Nil
operand_of seen (Variable v) = Variable (seen v)

abbrev pub change_of : {V W : Type 0} → (V → W) → ChangeTree V → ChangeTree W
change_of seen (New n) = New n
change_of seen (Assign t) = Assign (operand_of seen t)
change_of seen (Load t n) = Load (operand_of seen t) n
change_of seen (Store n t) = Store n (operand_of seen t)

abbrev pub command_of : {V W : Type 0} → (V → W) → CommandTree V → CommandTree W
command_of seen Stop = Stop
command_of seen (IfAny n) = IfAny n
command_of seen (Goto n) = Goto n
command_of seen (Free t) = Free (operand_of seen t)
command_of seen (If t b u n) = If (operand_of seen t) b (operand_of seen u) n
command_of seen (StoreAtNil n t) = StoreAtNil n (operand_of seen t)
command_of seen (Change v c) = Change (seen v) (change_of seen c)

abbrev pub line_of : {V W : Type 0} → (V → W) → LineTree V → LineTree W
line_of seen l = record { number = l.number; command = command_of seen l.command }
