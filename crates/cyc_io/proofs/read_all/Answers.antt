use Rattle.std.proofs.Common.{◌++◌, length-append, length-take, take, arith}
use Rattle.std.proofs.lemmas.Grind.{common_steps}
use Rattle.std.proofs.KnownBytes.{Consumes-trans}
use Rattle.cyc_io.proofs.read_all.Goals as goal

pub returns-in_err-extend_from_slice-clause-taken : goal.returns-in_err-extend_from_slice-clause-taken
returns-in_err-extend_from_slice-clause-taken g c =
    let bytes = c.loop-chunk.bytes.items in
    let piece = take c.in-Ok.count c.read.new.buf in (
      bytes ++ piece,
      Consumes-trans _ _ _ _ _ c.loop-chunk.invariant.came c.in-Ok.ensures.bytes.0,
      grind (arith, common_steps, length-append bytes piece, length-take c.in-Ok.count c.read.new.buf),
    )
