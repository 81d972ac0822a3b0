use Rattle.fo_formula.specs.Tests.{same_sequent}
use Rattle.fo_formula.proofs.Reflects.{decided, sequent_is, sequent_self}
use Rattle.fo_rules.proofs.parts.tests.is_one_sequent.Goals as goal

pub returns : goal.returns
returns c =
    decided same_sequent sequent_is sequent_self c.is_same_sequent.result c.args.a.now c.args.b.now
    c.is_same_sequent.ensures
