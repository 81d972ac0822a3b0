use Rattle.std.proofs.Common.{◌-◌}
use Rattle.script_reader.proofs.declarations.add_joint.Given as goal

abbrev pub decreases-names : goal.decreases-names
decreases-names l = l.names.end - l.names.next

abbrev pub decreases-bodies : goal.decreases-bodies
decreases-bodies l = l.bodies.end - l.bodies.next
