use Rattle.file_reader.proofs.PieceLaws.{statement-comes, statement-bad, bytes-bad}
use Rattle.file_reader.proofs.statements_stand_at_the_front.Goals as goal

pub returns-clause-taken : goal.returns-clause-taken
returns-clause-taken c = statement-comes

pub returns-clause-bad : goal.returns-clause-bad
returns-clause-bad c = statement-bad

pub returns-clause-no_character : goal.returns-clause-no_character
returns-clause-no_character c = bytes-bad
