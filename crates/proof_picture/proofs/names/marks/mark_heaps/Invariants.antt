use Rattle.std.proofs.Common.{◌≡◌, drop}
use Rattle.proof_picture.specs.Marks.{marked_heaps}
use Rattle.proof_picture.proofs.names.marks.mark_heaps.Given as goal

abbrev pub invariant-loop-heap : goal.invariant-loop-heap
invariant-loop-heap l = marked_heaps l.flags (drop l.heap-index l.heaps) ≡ marked_heaps l.fn.flags l.heaps
