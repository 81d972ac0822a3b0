use Rattle.definition_equality.proofs.CommandEquality.{command_eq-Decides}
use Rattle.definition_equality.proofs.commands.is_same_command.Goals as goal

pub returns : goal.returns
returns c = rw c.eq.ensures (command_eq-Decides _ _)
