use Rattle.std.proofs.Common.{subst}
use Rattle.proof_search.specs.Outcomes.{IsProved}
use Rattle.solver.proofs.Checked.{moves_proof}
use Rattle.solver.proofs.proofs.fixed_proof.Goals as goal

pub returns-in-Found : goal.returns-in-Found
returns-in-Found c = moves_proof c.args.problem.now c.in-Found.file
    (subst (IsProved c.args.problem.now) c.in-Found.is c.in_ok-file.ensures.proved)
