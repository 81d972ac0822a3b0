use Rattle.std.proofs.Common.{sym, ap}
use Rattle.derivations.specs.Goals.{begins_with}
use Rattle.derivations.proofs.Stack.{no_top, begins_last}
use Rattle.derivations.proofs.tableaux.goals.is_next.Goals as goal
use Rattle.std.proofs.Common.{refl}

pub returns-in-None : goal.returns-in-None
returns-in-None g c = sym
    (ap (begins_with c.args.node) (no_top c.args.goals.now c.args.goals.now refl c.in-None.ensures.value))

pub returns-in-Some : goal.returns-in-Some
returns-in-Some g c = sym (begins_last c.args.node c.args.goals.now c.in-Some.goal.now c.in-Some.ensures.value)
