use Rattle.std.proofs.Common.{◌≡◌}
use Rattle.model_check.specs.ForcedLocals.{stack_of}
use Rattle.model_check.specs.declared.ground.Piece.TheVariants.{Of}
use Rattle.model_check.proofs.Asking.{pred_asked}
use Rattle.model_check.proofs.grounding.piece_of.Goals as goal

pub returns-in_ok-q-in-Pred : goal.returns-in_ok-q-in-Pred
returns-in_ok-q-in-Pred c = λ y e.
    let z : Of c.in_ok-q-in-Pred.q ≡ y = cc in
    pred_asked c.args.places.now.keys c.args.questions.now.keys c.ask.new.questions.keys c.args.stack.now
    (stack_of c.args.locals.now)
    c.args.atom.now c.in-Pred.p c.in_ok-q-in-Pred.q c.in-Pred.ts c.as_slice.result.now
    c.in_ok-values-in-Pred.values.items y z c.in-Pred.is c.as_slice.ensures c.in_ok-values-in-Pred.ensures
    c.in_ok-q-in-Pred.ensures
