use Rattle.std.proofs.Common.{◌∙◌, vec_len}
use Rattle.script_reader.proofs.Growing.{opens}
use Rattle.script_reader.proofs.Unfit as unfit
use Rattle.script_reader.proofs.trees.reading.Building.opened.Goals as goal

pub returns-then-self-clause-takes : goal.returns-then-self-clause-takes
returns-then-self-clause-takes c to end ts = unfit.opened_begun c.args.from to end ts (vec_len c.args.self.now.open)
    c.args.self.now.begun c.if-self.true

pub returns-clause-takes : goal.returns-clause-takes
returns-clause-takes c to end ts = unfit.opened c.args.from to end ts (vec_len c.args.self.now.open)
    _ c.args.self.now.begun c.is_empty-begun.result c.if-self.false c.is_empty-begun.ensures c.in_ok-push.ensures.len

pub returns-clause-adds : goal.returns-clause-adds
returns-clause-adds c to tokens partial =
    opens _ _ _ _ c.len-place.result c.args.from to (c.len-place.ensures ∙ c.args.self.now.nodes.ok.0)
    c.in_ok-push-2.ensures.items
    c.in_ok-push.ensures.items tokens partial
