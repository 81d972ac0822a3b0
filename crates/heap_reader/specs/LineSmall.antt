-- Lines that fit the values' types: numbers of 16 bits for variables, of 8 bits for fields.
use Rattle.std.specs.Prelude.{ℕ, ◌<◌}
use Rattle.heap_formula.specs.declared.commands.Command.{Command}
use Rattle.heap_formula.specs.declared.commands.Command.TheVariants.{Assign, Load, Store, New, Free, IfEq, IfNeq, IfAny}
use Rattle.heap_formula.specs.declared.commands.Command.TheVariants.{Goto, Stop, Ends}
use Rattle.heap_reader.specs.Small.{IsSmallTerm}

abbrev pub IsSmallCommand : Command → Type 0
IsSmallCommand (Assign x t) = (x < 65536) × IsSmallTerm t
IsSmallCommand (Load x t k) = (x < 65536) × IsSmallTerm t × (k < 256)
IsSmallCommand (Store t k u) = IsSmallTerm t × (k < 256) × IsSmallTerm u
IsSmallCommand (New x k) = (x < 65536) × (k < 256)
IsSmallCommand (Free t) = IsSmallTerm t
IsSmallCommand (IfEq t u j) = IsSmallTerm t × IsSmallTerm u
IsSmallCommand (IfNeq t u j) = IsSmallTerm t × IsSmallTerm u
IsSmallCommand (IfAny j) = Unit {0}
IsSmallCommand (Goto j) = Unit {0}
IsSmallCommand Stop = Unit {0}
IsSmallCommand (Ends bs) = Unit {0}

abbrev pub IsSmallLine : ℕ × Command → Type 0
IsSmallLine l = IsSmallCommand l.1
