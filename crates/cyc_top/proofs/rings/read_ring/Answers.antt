use Rattle.std.proofs.Common.{◌∙◌, ap, arith, length}
use Rattle.cyc_top.proofs.RingFiles.{whole_ring, read_ring_is, read_ring_faultless}
use Rattle.cyc_top.proofs.rings.read_ring.Goals as goal

pub read_file-requires : goal.read_file-requires
read_file-requires c =
    omega (arith, c.in_ok-ring_file.ensures.short, ap length (c.as_slice.ensures.value ∙ c.in_ok-text.ensures.text))

pub returns-in-Ok : goal.returns-in-Ok
returns-in-Ok c =
    let ring = c.in_ok-ring_file in
    let whole = whole_ring c.args.k ring.field-0 ring.ensures.definitions ring.ensures.program ring.ensures.file_form in
    read_ring_is c.args.k ring.field-0 c.in-Ok.file _ whole (c.as_slice.ensures.value ∙ c.in_ok-text.ensures.text)
    c.in-Ok.ensures

pub unreachable-requires : goal.unreachable-requires
unreachable-requires c =
    c.in_default.not-OutOfMemory
    (read_ring_faultless c.in_ok-ring_file.field-0 _ c.in-Err.fault
    (c.as_slice.ensures.value ∙ c.in_ok-text.ensures.text) c.in-Err.ensures)
