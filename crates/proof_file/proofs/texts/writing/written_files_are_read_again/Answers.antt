use Rattle.proof_file.proofs.TextReadings.{text_read_again}
use Rattle.proof_file.proofs.texts.writing.written_files_are_read_again.Goals as goal

pub returns : goal.returns
returns c = text_read_again
