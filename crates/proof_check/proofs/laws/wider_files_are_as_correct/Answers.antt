use Rattle.proof_check.proofs.Upgraded.{same_graph, correct_again, correct_before}
use Rattle.proof_check.proofs.laws.wider_files_are_as_correct.Goals as goal

pub returns : goal.returns
returns c = record { correct = correct_again; before = correct_before; graph = same_graph }
