use Rattle.file_reader.proofs.Fresh.{fresh-read, fresh-comes}
use Rattle.file_reader.proofs.fresh_readers_read_the_text.Goals as goal

pub returns-clause-read : goal.returns-clause-read
returns-clause-read c = fresh-read

pub returns-clause-comes : goal.returns-clause-comes
returns-clause-comes c = fresh-comes
