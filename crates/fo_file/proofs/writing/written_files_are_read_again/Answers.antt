use Rattle.fo_file.proofs.Readings.{text-read-again}
use Rattle.fo_file.proofs.writing.written_files_are_read_again.Goals as goal

pub returns : goal.returns
returns c = text-read-again
