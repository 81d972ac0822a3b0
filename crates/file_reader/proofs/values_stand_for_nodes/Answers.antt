use Rattle.file_reader.proofs.StepLaws.{node-step, end-step, node-fault-step, ended-step}
use Rattle.file_reader.proofs.Sizes.{end-says}
use Rattle.file_reader.proofs.values_stand_for_nodes.Goals as goal

pub returns-clause-node : goal.returns-clause-node
returns-clause-node c = node-step

pub returns-clause-last : goal.returns-clause-last
returns-clause-last c = end-step

pub returns-clause-fault : goal.returns-clause-fault
returns-clause-fault c = node-fault-step

pub returns-clause-ended : goal.returns-clause-ended
returns-clause-ended c = ended-step

pub returns-clause-end : goal.returns-clause-end
returns-clause-end c = end-says
