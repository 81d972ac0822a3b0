use Rattle.check_answers.proofs.Files.{one_file_reading}
use Rattle.command_answers.proofs.laws.proof_files_are_read_in_one_way.Goals as goal

pub returns : goal.returns
returns c = one_file_reading
