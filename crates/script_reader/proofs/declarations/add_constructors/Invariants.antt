use Rattle.std.proofs.Common.{◌-◌}
use Rattle.script_reader.proofs.declarations.add_constructors.Given as goal

abbrev pub decreases-items : goal.decreases-items
decreases-items l = l.items.end - l.items.next
