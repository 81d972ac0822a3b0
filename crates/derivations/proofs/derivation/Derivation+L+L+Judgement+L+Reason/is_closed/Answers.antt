use Rattle.std.proofs.Common.{◌∙◌}
use Rattle.derivations.proofs.Stack.{closed_is}
use Rattle.derivations.proofs.derivation.Derivation+L+L+Judgement+L+Reason.is_closed.Goals as goal

pub returns : goal.returns
returns g c = c.is_empty.ensures
    ∙ closed_is c.args.self.now.goals.items c.args.self.now.goals.len c.args.self.now.goals.ok.0
