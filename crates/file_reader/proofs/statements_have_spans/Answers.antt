use Rattle.file_reader.proofs.Sizes.{statement-span}
use Rattle.file_reader.proofs.statements_have_spans.Goals as goal

pub returns : goal.returns
returns c = statement-span
