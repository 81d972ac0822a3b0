use Rattle.model_file.proofs.Readings.{one_spelled}
use Rattle.model_file.proofs.writing.bytes_spell_one_model.Goals as goal

pub returns : goal.returns
returns c = one_spelled
