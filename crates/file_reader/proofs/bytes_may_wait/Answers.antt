use Rattle.file_reader.proofs.PieceLaws.{piece-waits}
use Rattle.file_reader.proofs.bytes_may_wait.Goals as goal

pub returns : goal.returns
returns c = piece-waits
