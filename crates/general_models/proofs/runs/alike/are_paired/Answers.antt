use Rattle.general_models.specs.Growing.{IsPaired}
use Rattle.general_models.proofs.AlikeTests.{two_lengths}
use Rattle.general_models.proofs.runs.alike.are_paired.Goals as goal

pub returns-then-befores-afters : goal.returns-then-befores-afters
returns-then-befores-afters c = two_lengths (IsPaired c.args.pairs.now) c.args.befores.now c.args.afters.now
    c.if-befores-afters.true
