use Rattle.model_file.proofs.Readings.{text_read_again}
use Rattle.model_file.proofs.writing.written_models_are_read_again.Goals as goal

pub returns : goal.returns
returns c = text_read_again
