-- The text of a graph, a statement a line.
use Rattle.std.specs.Prelude.{ℕ, List, [], ◌∷◌, ◌++◌, codes, decimal}
use Rattle.draw_top.specs.Graphs.{LabelRun, Text, Break, Plain, Bold, Setting, Quoted, Label, Set, Node, Cluster, Edge}
use Rattle.draw_top.specs.Graphs.{Drawing}
use Rattle.draw_top.specs.Quoting.{quoted, marked_up}

-- the tags after which a text is bold and of a colour
abbrev pub bold_begins : List ℕ → List ℕ
bold_begins color = codes "<FONT COLOR=" ++ quoted color ++ codes "><B>"

abbrev pub bold_text : List ℕ → List ℕ → List ℕ
bold_text color text = bold_begins color ++ marked_up text ++ codes "</B></FONT>"

-- a part of a label; after a break the next line begins at the left
abbrev pub run_text : LabelRun → List ℕ
run_text (Text Plain text) = marked_up text
run_text (Text (Bold color) text) = bold_text color text
run_text Break = codes "<BR ALIGN=\"LEFT\"/>"

abbrev pub runs_text : List LabelRun → List ℕ
runs_text [] = []
runs_text (run ∷ runs) = run_text run ++ runs_text runs

abbrev pub value_text : Setting → List ℕ
value_text (Quoted text) = quoted text
value_text (Label runs) = codes "<" ++ runs_text runs ++ codes ">"

abbrev pub set_text : Set → List ℕ
set_text s = codes " " ++ s.name ++ codes "=" ++ value_text s.value

abbrev pub sets_text : List Set → List ℕ
sets_text [] = []
sets_text (s ∷ sets) = set_text s ++ sets_text sets

-- what is set, between brackets, and the end of the statement
abbrev pub bracketed : List Set → List ℕ
bracketed sets = codes " [" ++ sets_text sets ++ codes " ];\n"

abbrev pub node_text : Node → List ℕ
node_text node = decimal node.number ++ bracketed node.sets

abbrev pub nodes_text : List Node → List ℕ
nodes_text [] = []
nodes_text (node ∷ nodes) = node_text node ++ nodes_text nodes

abbrev pub cluster_heading : Cluster → List ℕ
cluster_heading c = codes "subgraph cluster_" ++ decimal c.number ++ codes " {\ngraph" ++ bracketed c.sets

abbrev pub cluster_text : Cluster → List ℕ
cluster_text c = cluster_heading c ++ nodes_text c.nodes ++ codes "}\n"

abbrev pub clusters_text : List Cluster → List ℕ
clusters_text [] = []
clusters_text (c ∷ clusters) = cluster_text c ++ clusters_text clusters

abbrev pub edge_text : Edge → List ℕ
edge_text edge = decimal edge.from ++ codes " -> " ++ decimal edge.to ++ bracketed edge.sets

abbrev pub edges_text : List Edge → List ℕ
edges_text [] = []
edges_text (edge ∷ edges) = edge_text edge ++ edges_text edges

abbrev pub heading_text : Drawing → List ℕ
heading_text g = codes "digraph {\ngraph" ++ bracketed g.whole
    ++ (codes "node" ++ bracketed g.all_nodes ++ (codes "edge" ++ bracketed g.all_edges))

abbrev pub graph_text : Drawing → List ℕ
graph_text g = heading_text g ++ nodes_text g.nodes ++ (clusters_text g.clusters ++ (edges_text g.edges ++ codes "}\n"))
