use Rattle.proof_file.proofs.TextReadings.{one_spelled}
use Rattle.proof_file.proofs.texts.writing.bytes_spell_one_file.Goals as goal

pub returns : goal.returns
returns c = one_spelled
