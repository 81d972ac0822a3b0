-- The first two nodes, then the two cases' others.
use Rattle.std.proofs.Common.{[], ◌∷◌, ◌++◌, ap, ◌∙◌}
use Rattle.proof_file.specs.FileNodes.{FileNode}
use Rattle.ring_family.proofs.Growing.{pushed_parts}
use Rattle.ring_family.proofs.nodes.push_block.Goals as goal

pub returns : goal.returns
returns c =
    let p = c.in_ok-push.ensures.items ∙ ap (λ (d : FileNode). c.args.nodes.now.items ++ d ∷ [])
    c.in_ok-unfolded.ensures in
    let q = c.in_ok-push-2.ensures.items ∙ ap (λ (d : FileNode). c.push.new.self.items ++ d ∷ [])
    c.in_ok-rewritten.ensures in
    pushed_parts c.args.nodes.now.items c.push.new.self.items c.push-2.new.self.items c.push_nil_case.new.nodes.items
    c.push_cell_case.new.nodes.items _ _ _ _ _ _ _ _ p q c.in_ok-push_nil_case.ensures
    c.in_ok-push_cell_case.ensures
