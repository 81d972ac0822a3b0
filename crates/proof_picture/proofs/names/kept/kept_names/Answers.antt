use Rattle.std.proofs.Common.{drop, map}
use Rattle.heap_formula.specs.Programs.{program_variables}
use Rattle.proof_picture.specs.Arrows.{row_of}
use Rattle.proof_picture.specs.Carried.{flags_of}
use Rattle.proof_picture.specs.Kept.{kept_names}
use Rattle.proof_picture.proofs.Keeping.{kept-done}
use Rattle.proof_picture.proofs.names.kept.kept_names.Goals as goal

pub returns : goal.returns
returns c =
    let f = c.args.file.now in
    kept-done c.args.count (program_variables f.program) (map flags_of c.loop-v.ways.items) c.loop-v.v
    (drop c.loop-v.v f.nodes) c.args.rows.now c.loop-v.v (map flags_of c.loop-v.all.items)
    (kept_names c.args.count f (map row_of c.args.rows.now)) c.loop-v-test.false c.loop-v.invariant
