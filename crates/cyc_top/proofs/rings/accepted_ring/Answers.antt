use Rattle.std.proofs.Common.{◌≡◌, ◌∙◌, ap, subst, length}
use Rattle.std.specs.Prelude.{IfOk}
use Rattle.cyc_runs.specs.Texts.{ring_text}
use Rattle.check_answers.specs.Answers.{link_count}
use Rattle.cyc_top.proofs.RingFiles.{ring_node_count, ring_link_count}
use Rattle.cyc_top.proofs.rings.accepted_ring.Goals as goal

pub returns : goal.returns
returns c =
    let k = c.args.k in
    let f = c.args.file.now in
    let nodes = ap length c.as_slice-nodes.ensures ∙ ring_node_count k f c.requires in
    let links = c.links_of.ensures ∙ ap link_count c.as_slice-nodes.ensures ∙ ring_link_count k f c.requires in
    subst (λ n. IfOk c.ring_line.result (λ line. line.items ≡ ring_text k n 1)) nodes
    (subst (λ l. IfOk c.ring_line.result (λ line. line.items ≡ ring_text k (length c.as_slice-nodes.result.now) l))
    links c.ring_line.ensures)
