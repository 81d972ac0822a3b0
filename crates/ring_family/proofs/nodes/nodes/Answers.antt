-- Each turn moves one block from what is left.
use Rattle.std.proofs.Common.{◌≡◌, ◌+◌, ◌-◌, List, [], ◌∷◌, ◌++◌, arith, ap, sym, ◌∙◌}
use Rattle.proof_file.specs.FileNodes.{FileNode}
use Rattle.ring_family.specs.Ring.{ring_block, ring_bud, in_blocks, ring_nodes, file_nodes}
use Rattle.ring_family.proofs.Growing.{grown, nodes_left, nodes_end}
use Rattle.ring_family.proofs.nodes.nodes.Goals as goal

pub loop-i-init : goal.loop-i-init
loop-i-init c =
    let k = c.args.k in
    let whole : k - 0 ≡ k = omega arith in
    ap (λ (l : List FileNode). l ++ file_nodes (in_blocks (ring_block k) (ring_bud k) 0 (k - 0)))
    c.new-nodes.ensures.items ∙ ap (λ n. file_nodes (in_blocks (ring_block k) (ring_bud k) 0 n)) whole

pub loop-i-preserved : goal.loop-i-preserved
loop-i-preserved c =
    let k = c.args.k in
    let i = c.loop-i.i in
    let made = c.loop-i.nodes.items in
    grown made c.push_block.new.nodes.items (file_nodes (ring_block k i))
    (file_nodes (in_blocks (ring_block k) (ring_bud k) (i + 1) (k - (i + 1)))) (file_nodes (ring_nodes k))
    c.in_ok-push_block.ensures
    (ap (λ (l : List FileNode). made ++ l) (sym (nodes_left k i c.loop-i-test.true)) ∙ c.loop-i.invariant)

pub returns : goal.returns
returns c =
    let made = c.loop-i.nodes.items in
    let end = nodes_end c.args.k c.loop-i.i (omega (arith, c.loop-i.auto.i-end, c.loop-i-test.false)) in
    ◌∙◌ {A = List FileNode} c.in_ok-push.ensures.items
    (◌∙◌ {A = List FileNode} (ap (λ (d : FileNode). made ++ d ∷ []) c.in_ok-bud.ensures)
    (ap (λ (l : List FileNode). made ++ l) (sym end) ∙ c.loop-i.invariant))
