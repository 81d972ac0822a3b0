-- What is made, and then what is left, is the whole list.
use Rattle.std.proofs.Common.{◌≡◌, ◌-◌, ◌++◌}
use Rattle.ring_family.specs.Ring.{ring_block, ring_bud, in_blocks, ring_nodes, file_nodes}
use Rattle.ring_family.proofs.nodes.nodes.Given as goal

abbrev pub invariant-loop-i : goal.invariant-loop-i
invariant-loop-i l = l.nodes.items ++ file_nodes (in_blocks (ring_block l.k) (ring_bud l.k) l.i (l.k - l.i))
    ≡ file_nodes (ring_nodes l.k)
