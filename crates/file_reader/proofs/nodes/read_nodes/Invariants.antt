use Rattle.std.proofs.Common.{length}
use Rattle.file_reader.proofs.RunLaws.{SoFar}
use Rattle.file_reader.proofs.nodes.read_nodes.Given as goal

abbrev pub invariant-statements : goal.invariant-statements
invariant-statements l = SoFar l.fn.place l.fn.comment l.fn.text l.fn.known l.fn.found l.found l.place l.comment l.rest

abbrev pub decreases-statements : goal.decreases-statements
decreases-statements l = length l.rest
