use Rattle.run_file.proofs.Readings.{text_read_again}
use Rattle.run_file.proofs.writing.written_runs_are_read_again.Goals as goal

pub returns : goal.returns
returns c = text_read_again
