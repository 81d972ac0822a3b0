use Rattle.std.proofs.Common.{◌∙◌, get_or, ap}
use Rattle.heap_formula.specs.Definitions.{Definition}
use Rattle.sat_pairs.proofs.Taken.{arity_read}
use Rattle.sat_pairs.proofs.turns.arity_at.Goals as goal

pub returns : goal.returns
returns c =
    let d : Definition = c.index-all-pred.result in
    ap (λ z. (get_or z c.args.pred d).arity) c.as_slice-all.ensures.value
    ∙ arity_read c.args.defs.now.list c.args.pred d c.requires
