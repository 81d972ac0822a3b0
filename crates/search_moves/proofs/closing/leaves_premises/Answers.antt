use Rattle.std.proofs.Common.{◌∙◌, sym}
use Rattle.search_moves.specs.Settings.{theory}
use Rattle.search_moves.proofs.LeftOpen.{left_open}
use Rattle.search_moves.proofs.closing.leaves_premises.Goals as goal

pub returns : goal.returns
returns c yes' lines = left_open (theory c.args.defs.now lines) c.args.judgement.now c.args.rule.now
    (sym c.leaves.ensures ∙ yes')
