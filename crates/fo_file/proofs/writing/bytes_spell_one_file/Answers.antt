use Rattle.fo_file.proofs.Readings.{one-spelled}
use Rattle.fo_file.proofs.writing.bytes_spell_one_file.Goals as goal

pub returns : goal.returns
returns c = one-spelled
