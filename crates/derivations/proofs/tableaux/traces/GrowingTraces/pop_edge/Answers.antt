use Rattle.std.proofs.Common.{arith, refl, sym, ap, ◌∙◌, length}
use Rattle.std.proofs.lemmas.Option.{slice_get_read}
use Rattle.derivations.specs.Leaves.{drop_edge}
use Rattle.derivations.proofs.Leaves.{set_dropped, none_dropped}
use Rattle.derivations.proofs.tableaux.traces.GrowingTraces.pop_edge.Goals as goal

pub returns-then-node-len : goal.returns-then-node-len
returns-then-node-len c =
    set_dropped c.self.inside.nodes.items c.args.node c.index_mut.result.now c.pop.new.self
    (slice_get_read c.self.inside.nodes.items (length c.self.inside.nodes.items) c.args.node c.index_mut.result.now refl
    (omega (arith, c.if-node-len.true, c.len.ensures, c.self.inside.nodes.ok.0)) c.index_mut.ensures.value)
    c.pop.ensures
    ∙ ap (drop_edge c.args.node) c.self.view_is

pub returns-else-node-len : goal.returns-else-node-len
returns-else-node-len c =
    sym (none_dropped c.args.self.now c.args.node (omega (
      arith,
      c.if-node-len.false,
      c.len.ensures,
      c.self.inside.nodes.ok.0,
      ap length c.self.view_is,
    )))
