use Rattle.heap_formula.proofs.StageLaws.{least_in_closed}
use Rattle.pred_defs.proofs.families.least_is_below.Goals as goal

pub returns : goal.returns
returns g c =
    least_in_closed (g.F.ClosedFamily.definitions c.args._family.now) (g.F.ClosedFamily.means c.args._family.now)
    (g.met.F.ClosedFamily.closed c.args._family.now)
