use Rattle.std.proofs.Common.{length}
use Rattle.solve_top.proofs.FramePrefixes.{spatial_begun}
use Rattle.solve_top.proofs.findings.begins_with_spatial.Goals as goal

pub returns : goal.returns
returns c =
    λ t. spatial_begun c.args.whole.now c.args.part.now (length c.args.part.now) c.eq.result c.eq.ensures t
