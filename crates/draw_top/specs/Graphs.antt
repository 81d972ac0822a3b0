-- Graphs without where they lie in memory.
use Rattle.std.specs.Prelude.{ℕ, List, map}
use Rattle.draw_top.specs.declared.graph.Style.{Style}
use Rattle.draw_top.specs.declared.graph.Style.TheVariants as styles
use Rattle.draw_top.specs.declared.graph.Run.{Run}
use Rattle.draw_top.specs.declared.graph.Run.TheVariants as runs
use Rattle.draw_top.specs.declared.graph.Value.{Value}
use Rattle.draw_top.specs.declared.graph.Value.TheVariants as values
use Rattle.draw_top.specs.declared.graph.Attribute.{Attribute}
use Rattle.draw_top.specs.declared.graph.Vertex.{Vertex}
use Rattle.draw_top.specs.declared.graph.Cluster.{Cluster as FramedVertices}
use Rattle.draw_top.specs.declared.graph.Arrow.{Arrow}
use Rattle.draw_top.specs.declared.graph.Graph.{Graph}

pub data Look : Type 0 where
  Plain : Look
  Bold : List ℕ → Look

pub data LabelRun : Type 0 where
  Text : Look → List ℕ → LabelRun
  Break : LabelRun

pub data Setting : Type 0 where
  Quoted : List ℕ → Setting
  Label : List LabelRun → Setting

-- a name is set to a value
pub record Set : Type 0 where
  pub name : List ℕ
  pub value : Setting

pub record Node : Type 0 where
  pub number : ℕ
  pub sets : List Set

-- nodes in a frame
pub record Cluster : Type 0 where
  pub number : ℕ
  pub sets : List Set
  pub nodes : List Node

pub record Edge : Type 0 where
  pub from : ℕ
  pub to : ℕ
  pub sets : List Set

pub record Drawing : Type 0 where
  pub whole : List Set
  pub all_nodes : List Set
  pub all_edges : List Set
  pub nodes : List Node
  pub clusters : List Cluster
  pub edges : List Edge

-- ---- what a contract sees of the code's graphs

abbrev pub look_of : Style → Look
look_of styles.Plain = Plain
look_of (styles.Bold color) = Bold color.now

abbrev pub run_of : Run → LabelRun
run_of (runs.Text style text) = Text (look_of style) text.items
run_of runs.Break = Break

abbrev pub setting_of : Value → Setting
setting_of (values.Quoted text) = Quoted text.now
setting_of (values.Label parts) = Label (map run_of parts.items)

abbrev pub set_of : Attribute → Set
set_of a = record { name = a.name.now; value = setting_of a.value }

abbrev pub node_of : Vertex → Node
node_of v = record { number = v.number; sets = map set_of v.attributes.items }

abbrev pub cluster_of : FramedVertices → Cluster
cluster_of c = record { number = c.number; sets = map set_of c.attributes.items; nodes = map node_of c.vertices.items }

abbrev pub edge_of : Arrow → Edge
edge_of a = record { from = a.from; to = a.to; sets = map set_of a.attributes.items }

abbrev pub drawing_of : Graph → Drawing
drawing_of g = record {
  whole = map set_of g.whole.items;
  all_nodes = map set_of g.all_nodes.items;
  all_edges = map set_of g.all_edges.items;
  nodes = map node_of g.vertices.items;
  clusters = map cluster_of g.clusters.items;
  edges = map edge_of g.arrows.items;
}
