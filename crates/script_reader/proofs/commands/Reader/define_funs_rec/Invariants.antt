use Rattle.std.proofs.Common.{◌-◌}
use Rattle.script_reader.proofs.commands.Reader.define_funs_rec.Given as goal

abbrev pub decreases-heads : goal.decreases-heads
decreases-heads l = l.declared.end - l.declared.next
