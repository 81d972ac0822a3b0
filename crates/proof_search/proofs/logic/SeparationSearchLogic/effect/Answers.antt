use Rattle.search_moves.specs.Nodes.{judgement_of}
use Rattle.proof_search.specs.Moves.{theory_in}
use Rattle.proof_search.proofs.Fair.{stands, readable}
use Rattle.proof_search.proofs.logic.SeparationSearchLogic.effect.Goals as goal

pub effect_of-requires-clause-occur : goal.effect_of-requires-clause-occur
effect_of-requires-clause-occur c =
    let t = theory_in c.args.self.now in
    record {
      goal = stands t c.args.goal.now.premise.judgement c.requires.occur.goal;
      made = λ i m at. stands t (judgement_of m) (c.requires.occur.made i m at);
    }

pub effect_of-requires-clause-allowed : goal.effect_of-requires-clause-allowed
effect_of-requires-clause-allowed c =
    readable (theory_in c.args.self.now) c.args.goal.now.premise.judgement c.args.reason.now c.requires.occur.goal
    c.requires.allowed
