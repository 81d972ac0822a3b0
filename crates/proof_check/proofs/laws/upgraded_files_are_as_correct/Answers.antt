use Rattle.proof_check.proofs.Upgraded.{same_graph, correct_again, correct_before, upgrade_widens}
use Rattle.proof_check.proofs.laws.upgraded_files_are_as_correct.Goals as goal

pub returns : goal.returns
returns c =
    record {
      correct = λ f g up. correct_again f g (upgrade_widens f g up);
      before = λ f g up. correct_before f g (upgrade_widens f g up);
      graph = λ f g up. same_graph f g (upgrade_widens f g up);
    }
