use Rattle.std.proofs.Common.{◌-◌}
use Rattle.script_reader.proofs.machine.Machine.terms.Given as goal

abbrev pub decreases-trees : goal.decreases-trees
decreases-trees l = l.items.end - l.items.next
