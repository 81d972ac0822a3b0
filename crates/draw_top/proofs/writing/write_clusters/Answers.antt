use Rattle.std.proofs.Common.{List, ◌+◌, ◌++◌, append_assoc, map, drop, sym, ap, ◌∙◌}
use Rattle.cyc_basics.proofs.Places.{drop_read}
use Rattle.draw_top.specs.declared.graph.Cluster.{Cluster}
use Rattle.draw_top.specs.Graphs.{cluster_of}
use Rattle.draw_top.specs.Texts.{cluster_text, clusters_text}
use Rattle.draw_top.proofs.writing.write_clusters.Goals as goal

pub loop-cluster-preserved : goal.loop-cluster-preserved
loop-cluster-preserved c =
    let clusters = c.args.clusters.now in
    let i = c.loop-cluster.cluster-index in
    let item = c.cluster-item.result in
    let rest = clusters_text (map cluster_of (drop (i + 1) clusters)) in
    ap (λ s. s ++ rest) c.in_ok-write_cluster.ensures
    ∙ append_assoc c.loop-cluster.out (cluster_text (cluster_of item)) rest
    ∙ ap (λ (xs : List Cluster). c.loop-cluster.out ++ clusters_text (map cluster_of xs))
    (sym (drop_read clusters i item c.loop-cluster-test.true c.cluster-item.is))
    ∙ c.loop-cluster.invariant
