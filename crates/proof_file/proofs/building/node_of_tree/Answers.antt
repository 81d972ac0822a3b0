use Rattle.std.proofs.Common.{◌≡◌, None, subst}
use Rattle.cyc_basics.specs.declared.limits.Limits.{Limits}
use Rattle.heap_reader.proofs.Fitting.{most_fits}
use Rattle.heap_syntax.specs.Versions.{limits}
use Rattle.proof_syntax.specs.Trees.{node_of}
use Rattle.proof_file.specs.Flaws.{node_flaw}
use Rattle.proof_file.proofs.Fitting.{node_small}
use Rattle.proof_file.proofs.SpanLaws.{node_some}
use Rattle.proof_file.proofs.building.node_of_tree.Goals as goal

pub value_of_node-requires-clause-small : goal.value_of_node-requires-clause-small
value_of_node-requires-clause-small c =
    let x = node_of c.args.tree.now in
    let none : node_flaw (limits c.args.version) c.args.heads.now c.args.lines c.args.n c.args.at x
    ≡ None = subst (λ (most : Limits). node_flaw most c.args.heads.now c.args.lines c.args.n c.args.at x ≡ None)
    c.limits.ensures.value c.in_ok-walk_node.ensures.0 in
    node_small (limits c.args.version) (most_fits c.args.version)
    c.args.heads.now c.args.lines c.args.n c.args.at x (node_some x c.requires.fits) none
