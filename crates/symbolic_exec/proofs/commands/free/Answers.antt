use Rattle.symbolic_exec.specs.Cells.{found_of}
use Rattle.symbolic_exec.proofs.FirstCell.{place_within}
use Rattle.symbolic_exec.proofs.commands.free.Goals as goal

pub without_spatial-requires : goal.without_spatial-requires
without_spatial-requires c =
    place_within c.args.a.now.pure c.args.t c.args.a.now.spatial (found_of c.in-Some.cell) c.in-Some.ensures
