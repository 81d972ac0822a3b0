use Rattle.proof_syntax.proofs.LeftLaws.{statement-first}
use Rattle.proof_syntax.proofs.statements.statements_come_off_the_front.Goals as goal

pub returns : goal.returns
returns c = statement-first
