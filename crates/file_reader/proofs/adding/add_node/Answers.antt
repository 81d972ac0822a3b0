use Rattle.std.proofs.Common.{◌≡◌, ◌+◌, Some, Err, subst, arith}
use Rattle.heap_syntax.specs.Versions.{limits}
use Rattle.heap_reader.proofs.WithinSpans.{flaw_within}
use Rattle.proof_syntax.specs.Trees.{node_of}
use Rattle.proof_file.specs.Building.{IsNodeMade}
use Rattle.proof_file.specs.declared.building.NodeFault.{NodeFault}
use Rattle.proof_file.specs.Flaws.{node_flaw}
use Rattle.proof_file.specs.Spans.{node_span}
use Rattle.proof_file.specs.Values.{node_value}
use Rattle.proof_file.proofs.WithinSpans.{node_before}
use Rattle.file_reader.proofs.After.{After, node_after}
use Rattle.file_reader.proofs.adding.add_node.Goals as goal

pub flaw-requires-clause-later : goal.flaw-requires-clause-later
flaw-requires-clause-later c =
    let most = limits c.args.known.now.version in
    let at = c.args.found.now.tokens in
    let x = node_of c.args.tree.now in
    let is : node_flaw most c.args.heads.now c.args.known.now.lines c.len-n.result at x
    ≡ Some c.in-Err-Flaw.flaw = subst (λ (f : NodeFault). IsNodeMade
    (node_flaw most c.args.heads.now c.args.known.now.lines c.len-n.result at x) (node_value c.args.heads.now x)
    (Err f)) c.in-Err-Flaw.field-0-is c.in-Err-Flaw.ensures in
    let after = subst (λ o. After o at) is (node_after most c.args.heads.now c.args.known.now.lines c.len-n.result at x)
    in
    omega (arith, after, c.requires.later)

pub flaw-requires-clause-within : goal.flaw-requires-clause-within
flaw-requires-clause-within c =
    let most = limits c.args.known.now.version in
    let at = c.args.found.now.tokens in
    let x = node_of c.args.tree.now in
    let flaw = node_flaw most c.args.heads.now c.args.known.now.lines c.len-n.result at x in
    let is : flaw ≡ Some c.in-Err-Flaw.flaw = subst (λ (f : NodeFault). IsNodeMade
    (node_flaw most c.args.heads.now c.args.known.now.lines c.len-n.result at x) (node_value c.args.heads.now x)
    (Err f)) c.in-Err-Flaw.field-0-is c.in-Err-Flaw.ensures in
    let within = flaw_within flaw (at + node_span x) c.in-Err-Flaw.flaw
    (node_before most c.args.heads.now c.args.known.now.lines c.len-n.result at x) is in
    omega (arith, within, c.requires.within)
