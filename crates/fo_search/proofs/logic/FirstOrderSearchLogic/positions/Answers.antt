use Rattle.fo_search.proofs.Fairness.{stands}
use Rattle.fo_search.proofs.logic.FirstOrderSearchLogic.positions.Goals as goal

pub positions-requires : goal.positions-requires
positions-requires c = stands c.args.self.now.logic.theory.now c.args.sequent.now c.requires
