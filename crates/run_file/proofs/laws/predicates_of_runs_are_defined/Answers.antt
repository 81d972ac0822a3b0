use Rattle.run_file.proofs.Defined.{run_closed, precondition_known}
use Rattle.run_file.proofs.laws.predicates_of_runs_are_defined.Goals as goal

pub returns-clause-definitions : goal.returns-clause-definitions
returns-clause-definitions c = run_closed

pub returns-clause-precondition : goal.returns-clause-precondition
returns-clause-precondition c = precondition_known
