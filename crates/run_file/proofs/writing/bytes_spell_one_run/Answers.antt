use Rattle.run_file.proofs.Readings.{one_spelled}
use Rattle.run_file.proofs.writing.bytes_spell_one_run.Goals as goal

pub returns : goal.returns
returns c = one_spelled
