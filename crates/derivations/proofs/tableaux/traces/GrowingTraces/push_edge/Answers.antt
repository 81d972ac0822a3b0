use Rattle.std.proofs.Common.{arith, refl, sym, ap, ◌∙◌, length}
use Rattle.std.proofs.lemmas.Option.{slice_get_read}
use Rattle.buchi_inclusion.specs.Leaf.{add_edge}
use Rattle.derivations.proofs.Leaves.{set_added, none_added}
use Rattle.derivations.proofs.tableaux.traces.GrowingTraces.push_edge.Goals as goal

pub returns-in_ok-push : goal.returns-in_ok-push
returns-in_ok-push c =
    set_added c.self.inside.nodes.items c.args.node c.args.edge c.index_mut.result.now c.push.new.self
    (slice_get_read c.self.inside.nodes.items (length c.self.inside.nodes.items) c.args.node c.index_mut.result.now refl
    (omega (arith, c.if-node-len.true, c.len.ensures, c.self.inside.nodes.ok.0)) c.index_mut.ensures.value)
    c.in_ok-push.ensures
    ∙ ap (add_edge c.args.node c.args.edge) c.self.view_is

pub returns-else-node-len : goal.returns-else-node-len
returns-else-node-len c =
    sym (none_added c.args.self.now c.args.node c.args.edge
    (omega (arith, c.if-node-len.false, c.len.ensures, c.self.inside.nodes.ok.0, ap length c.self.view_is)))
