use Rattle.std.proofs.Common.{◌∙◌, refl, subst, sym}
use Rattle.proof_check.specs.Verdicts.{IsVerdict}
use Rattle.solver.proofs.Checked.{checked_proof}
use Rattle.solver.proofs.checking.checked.Goals as goal

pub returns-in-Accepted : goal.returns-in-Accepted
returns-in-Accepted c =
    let file = c.in_ok-file in
    let root = c.if-not-has_goal.ensures refl in
    checked_proof c.args.problem.now file.file _ root.0
    file.ensures.version file.ensures.definitions file.ensures.program
    (file.ensures.nodes ∙ c.from_vec.ensures ∙ sym c.deref.ensures.value) root.1 root.2
    (subst (IsVerdict file.file) c.in-Accepted.is c.in_ok-check.ensures)
