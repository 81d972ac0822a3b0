use Rattle.proof_search.specs.Moves.{theory_in}
use Rattle.proof_search.proofs.Fair.{stands}
use Rattle.proof_search.proofs.logic.SeparationSearchLogic.positions.Goals as goal

pub positions-requires : goal.positions-requires
positions-requires c = stands (theory_in c.args.self.now) c.args.judgement.now c.requires
