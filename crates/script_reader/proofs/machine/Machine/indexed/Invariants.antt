use Rattle.std.proofs.Common.{◌-◌}
use Rattle.script_reader.proofs.machine.Machine.indexed.Given as goal

abbrev pub decreases-sorts : goal.decreases-sorts
decreases-sorts l = l.items.end - l.items.next
