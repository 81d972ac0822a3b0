use Rattle.file_reader.proofs.LastLaws.{told-said}
use Rattle.file_reader.proofs.last.said.Goals as goal

pub file_of_values-requires : goal.file_of_values-requires
file_of_values-requires c = told-said c.args.known c.args.found (c.requires c.in-None.is)
    c.in-Some-front.front c.in-Some-front.is
