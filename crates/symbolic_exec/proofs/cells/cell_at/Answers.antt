use Rattle.symbolic_exec.proofs.FirstCell.{found_in}
use Rattle.symbolic_exec.proofs.cells.cell_at.Goals as goal

pub returns : goal.returns
returns c =
    found_in c.first_cell.result c.pure.result.now c.args.a.now.pure c.args.t c.spatial.result.now c.args.a.now.spatial
    c.pure.ensures.value c.spatial.ensures.value c.first_cell.ensures
