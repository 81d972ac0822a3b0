use Rattle.std.proofs.Common.{◌↔◌, drop}
use Rattle.sat_pairs.specs.Atoms.{HasSome}
use Rattle.sat_pairs.specs.Stages.{atoms_of}
use Rattle.sat_pairs.proofs.turns.have_pairs.Given as goal

abbrev pub invariant-loop-stage : goal.invariant-loop-stage
invariant-loop-stage l = HasSome l.table l.cell (atoms_of (drop l.stage-index l.stages))
    ↔ HasSome l.table l.cell (atoms_of l.stages)
