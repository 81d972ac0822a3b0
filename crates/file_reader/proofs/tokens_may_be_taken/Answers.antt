use Rattle.file_reader.proofs.PieceLaws.{tokens-taken, bad-place}
use Rattle.file_reader.proofs.tokens_may_be_taken.Goals as goal

pub returns-clause-taken : goal.returns-clause-taken
returns-clause-taken c = tokens-taken

pub returns-clause-bad : goal.returns-clause-bad
returns-clause-bad c = bad-place
