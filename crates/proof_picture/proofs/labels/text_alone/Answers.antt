use Rattle.std.proofs.Common.{◌∷◌, [], ◌++◌, map, ap, ◌∙◌}
use Rattle.proof_syntax.specs.Trees.{definition_of, end_of, node_of}
use Rattle.proof_picture.proofs.Alone.{made_fits}
use Rattle.proof_picture.proofs.labels.text_alone.Goals as goal

pub write_tree-requires : goal.write_tree-requires
write_tree-requires c =
    made_fits (node_of c.args.node) (map definition_of c.new-2.result.items) c.new-3.result.items
    (map end_of c.new-4.result.items) (map node_of c.push.new.self.items) c.new.result.items
    (ap (map definition_of) c.new-2.ensures.items)
    c.new-3.ensures.items
    (ap (map end_of) c.new-4.ensures.items)
    c.new.ensures.items
    (ap (map node_of) (c.in_ok-push.ensures.items ∙ ap (λ xs. xs
    ++ record { judgement = c.args.node.judgement; reason = c.args.node.reason; premises = c.new.result } ∷ [])
    c.new-nodes.ensures.items))
    c.requires
