use Rattle.file_reader.proofs.PieceLaws.{pieces-read}
use Rattle.file_reader.proofs.pieces_are_read_as_one_text.Goals as goal

pub returns : goal.returns
returns c = pieces-read
