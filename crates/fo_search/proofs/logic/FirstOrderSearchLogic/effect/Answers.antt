use Rattle.fo_logic.proofs.Open.{reason_open}
use Rattle.fo_search.specs.Calculus.{sequent_of}
use Rattle.fo_search.proofs.Fairness.{stands}
use Rattle.fo_search.proofs.logic.FirstOrderSearchLogic.effect.Goals as goal

pub effect_of-requires-clause-occur : goal.effect_of-requires-clause-occur
effect_of-requires-clause-occur c =
    let t = c.args.self.now.logic.theory.now in
    record {
      goal = stands t c.args.goal.now.premise.judgement c.requires.occur.goal;
      made = λ i m at. stands t (sequent_of m) (c.requires.occur.made i m at);
    }

pub effect_of-requires-clause-allowed : goal.effect_of-requires-clause-allowed
effect_of-requires-clause-allowed c = reason_open c.args.self.now.logic.theory.now c.args.reason.now c.requires.allowed
