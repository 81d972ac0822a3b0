use Rattle.derivations.proofs.Leaving.{none_out}
use Rattle.derivations.proofs.logic.Strategy.offers_within.Goals as goal

pub returns-clause-rules : goal.returns-clause-rules
returns-clause-rules g c = none_out (g.Self.Rules.calculus c.args.self.now)
    c.args.made.now c.args.goal.now c.args.most _ _ c.in_ok-offers.ensures.rules
