use Rattle.std.proofs.Common.{◌≡◌, ◌++◌, drop, map}
use Rattle.draw_top.specs.Graphs.{cluster_of}
use Rattle.draw_top.specs.Texts.{clusters_text}
use Rattle.draw_top.proofs.writing.write_clusters.Given as goal

-- The text so far and the texts of what is left.
abbrev pub invariant-loop-cluster : goal.invariant-loop-cluster
invariant-loop-cluster l = l.out ++ clusters_text (map cluster_of (drop l.cluster-index l.clusters)) ≡ l.fn.out
    ++ clusters_text (map cluster_of l.clusters)
