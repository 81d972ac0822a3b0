use Rattle.std.proofs.Common.{◌-◌}
use Rattle.script_reader.proofs.declarations.add_datatypes.Given as goal

abbrev pub decreases-names : goal.decreases-names
decreases-names l = l.names.end - l.names.next
