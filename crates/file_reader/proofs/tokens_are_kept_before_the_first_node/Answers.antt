use Rattle.file_reader.proofs.StepLaws.{head-step, head-fault-step}
use Rattle.file_reader.proofs.Beginning.{lead-none, lead-more, lead-fault}
use Rattle.file_reader.proofs.tokens_are_kept_before_the_first_node.Goals as goal

pub returns-clause-kept : goal.returns-clause-kept
returns-clause-kept c = head-step

pub returns-clause-none : goal.returns-clause-none
returns-clause-none c = lead-none

pub returns-clause-more : goal.returns-clause-more
returns-clause-more c = lead-more

pub returns-clause-dead : goal.returns-clause-dead
returns-clause-dead c = lead-fault

pub returns-clause-fault : goal.returns-clause-fault
returns-clause-fault c = head-fault-step
