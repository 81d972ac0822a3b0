use Rattle.symbolic_exec.specs.Cells.{found_of}
use Rattle.symbolic_exec.proofs.FirstCell.{place_within}
use Rattle.symbolic_exec.proofs.commands.store.Goals as goal

pub written-requires-clause-place_in : goal.written-requires-clause-place_in
written-requires-clause-place_in c =
    place_within c.args.a.now.pure c.args.t c.args.a.now.spatial (found_of c.in-Some.cell) c.in-Some.ensures
