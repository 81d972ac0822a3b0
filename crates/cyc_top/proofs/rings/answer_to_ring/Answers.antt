use Rattle.cyc_top.proofs.RingFiles.{ring_accepted}
use Rattle.cyc_top.proofs.rings.answer_to_ring.Goals as goal

pub unreachable-requires : goal.unreachable-requires
unreachable-requires c =
    c.in_default.not-Accepted
    (ring_accepted c.args.k c.in_ok-file.file c.in_ok-check.field-0 c.requires.from_one c.requires.most
    c.in_ok-file.ensures c.in_ok-check.ensures)
