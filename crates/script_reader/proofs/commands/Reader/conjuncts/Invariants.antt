use Rattle.std.proofs.Common.{◌-◌}
use Rattle.script_reader.proofs.commands.Reader.conjuncts.Given as goal

abbrev pub decreases-parts : goal.decreases-parts
decreases-parts l = l.end - l.at
