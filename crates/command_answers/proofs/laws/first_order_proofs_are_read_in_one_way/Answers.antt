use Rattle.command_answers.proofs.Readings.{one_proof_reading}
use Rattle.command_answers.proofs.laws.first_order_proofs_are_read_in_one_way.Goals as goal

pub returns : goal.returns
returns c = one_proof_reading
