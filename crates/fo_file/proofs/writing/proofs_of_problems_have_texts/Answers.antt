use Rattle.fo_file.proofs.Writable.{nodes-writable}
use Rattle.fo_file.proofs.writing.proofs_of_problems_have_texts.Goals as goal

pub returns : goal.returns
returns c = nodes-writable
