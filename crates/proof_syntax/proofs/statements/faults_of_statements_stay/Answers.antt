use Rattle.proof_syntax.proofs.LeftLaws.{statement-fault}
use Rattle.proof_syntax.proofs.statements.faults_of_statements_stay.Goals as goal

pub returns : goal.returns
returns c = statement-fault
