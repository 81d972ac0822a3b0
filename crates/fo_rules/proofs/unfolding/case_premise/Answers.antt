use Rattle.std.proofs.lemmas.Result.{IfOk-weaker}
use Rattle.fo_rules.proofs.CaseMaking.{unfold_made}
use Rattle.fo_rules.proofs.unfolding.case_premise.Goals as goal

pub returns : goal.returns
returns c =
    IfOk-weaker c.changed_premise.result _ _
    (λ p e. unfold_made c.args.sequent.now c.args.i c.args.arguments.now c.args.number c.args.case.now
    c.in_ok-arguments.arguments c.in_ok-locals.locals c.bound_of_atoms-count.result p
    c.in_ok-arguments.ensures.cases c.in_ok-locals.ensures c.bound_of_atoms-count.ensures.value e)
    c.changed_premise.ensures
