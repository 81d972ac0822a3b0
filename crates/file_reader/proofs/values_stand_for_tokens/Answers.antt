use Rattle.file_reader.proofs.Beginning.{begun-step}
use Rattle.file_reader.proofs.values_stand_for_tokens.Goals as goal

pub returns : goal.returns
returns c = begun-step
