use Rattle.std.proofs.Common.{length}
use Rattle.file_reader.specs.Lasts.{AreRead}
use Rattle.file_reader.proofs.last.read_left.Given as goal

abbrev pub invariant-nodes : goal.invariant-nodes
invariant-nodes l = AreRead l.fn.known l.fn.stretch l.fn.found l.found l.cursor

abbrev pub decreases-nodes : goal.decreases-nodes
decreases-nodes l = length l.cursor
