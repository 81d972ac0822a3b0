-- A folded picture as a drawing in DOT.
use Rattle.std.specs.Prelude.{ℕ, Bool, true, false, nat_eq, List, [], ◌∷◌, ◌++◌, map, codes, decimal, Option, Some}
use Rattle.std.specs.Prelude.{None, is_some, if◌then◌else◌}
use Rattle.heap_formula.specs.declared.proof_rules.RuleFault.{RuleFault}
use Rattle.proof_picture.specs.Shown.{Shown, ShownTree}
use Rattle.proof_picture.specs.Pieces.{LabelPart}
use Rattle.proof_picture.specs.Arrows.{Drawn}
use Rattle.draw_top.specs.Graphs.{Bold, LabelRun, Text, Break, Label, Set, Node, Cluster, Edge, Drawing}
use Rattle.draw_top.specs.Drawings.{edge_defaults, fault_runs, link_sets, node_defaults, pairs_sets, part_run}
use Rattle.draw_top.specs.Drawings.{refused_sets, set_to, whole_sets}

-- what is said of a box beside the words of the proof is grey
abbrev pub grey : List ℕ → LabelRun
grey text = Text (Bold (codes "#707070")) text

-- the number of a node, or of the first and the last of a chain
abbrev pub range_text : ℕ → ℕ → List ℕ
range_text first last = if nat_eq first last then decimal first else decimal first ++ codes " .. " ++ decimal last

-- that a closed subtree is one, and how many nodes it has; the text before ends a line
abbrev pub closed_runs : ℕ → List LabelRun
closed_runs count = grey (codes "closed: " ++ decimal count ++ codes " nodes") ∷ Break ∷ []

abbrev pub last_runs : ℕ → Option ℕ → Option RuleFault → List LabelRun
last_runs v (Some count) fault = closed_runs count
last_runs v None fault = Break ∷ fault_runs v fault

abbrev pub shown_runs : ℕ → ℕ → Option ℕ → List LabelPart → Option RuleFault → List LabelRun
shown_runs first last count label fault =
    grey (range_text first last) ∷ Break ∷ (map part_run label ++ last_runs first count fault)

abbrev pub label_set : List LabelRun → Set
label_set runs = record { name = codes "label"; value = Label runs }

abbrev pub shown_node : Shown → Node
shown_node s = record {
  number = s.first;
  sets = label_set (shown_runs s.first s.last s.count s.label s.fault)
      ∷ refused_sets (is_some s.fault);
}

abbrev pub shown_nodes : List Shown → List Node
shown_nodes boxes = map shown_node boxes

-- a link is dashed; to a lemma it leads down
abbrev pub companion_sets : Bool → Bool → List Set
companion_sets true is_link = set_to (codes "style") (codes "dashed") ∷ []
companion_sets false is_link = link_sets is_link

abbrev pub shown_edge : ℕ → Bool → Drawn → Edge
shown_edge v uses a =
    record {
      from = v;
      to = a.target;
      sets = pairs_sets a.pairs ++ companion_sets uses a.is_link
          ++ refused_sets a.is_refused;
    }

abbrev pub edges_at : ℕ → Bool → List Drawn → List Edge
edges_at v uses [] = []
edges_at v uses (a ∷ others) = shown_edge v uses a ∷ edges_at v uses others

abbrev pub shown_edges : List Shown → List Edge
shown_edges [] = []
shown_edges (s ∷ boxes) = edges_at s.first s.uses_lemma s.arrows ++ shown_edges boxes

-- ---- lemmas

abbrev pub root_of : List Shown → ℕ
root_of [] = 0
root_of (s ∷ boxes) = s.first

-- what a lemma says stands at its frame, which is dashed
abbrev pub lemma_runs : ℕ → List LabelPart → List LabelRun
lemma_runs root says = grey (codes "lemma " ++ decimal root) ∷ Break ∷ map part_run says

abbrev pub frame_sets : List Set
frame_sets = set_to (codes "labeljust") (codes "l") ∷ set_to (codes "style") (codes "dashed")
    ∷ set_to (codes "fontname") (codes "monospace") ∷ set_to (codes "fontsize") (codes "11") ∷ []

abbrev pub lemma_cluster : List LabelPart → List Shown → Cluster
lemma_cluster says boxes =
    let root = root_of boxes in
    record { number = root; sets = label_set (lemma_runs root says) ∷ frame_sets; nodes = shown_nodes boxes }

-- the nodes of a tree without a frame, and the frame of one with

abbrev pub free_nodes : Option (List LabelPart) → List Shown → List Node
free_nodes None boxes = shown_nodes boxes
free_nodes (Some says) boxes = []

abbrev pub frames : Option (List LabelPart) → List Shown → List Cluster
frames None boxes = []
frames (Some says) boxes = lemma_cluster says boxes ∷ []

-- ---- the whole

abbrev pub trees_nodes : List ShownTree → List Node
trees_nodes [] = []
trees_nodes (t ∷ ts) = free_nodes t.says t.boxes ++ trees_nodes ts

abbrev pub trees_clusters : List ShownTree → List Cluster
trees_clusters [] = []
trees_clusters (t ∷ ts) = frames t.says t.boxes ++ trees_clusters ts

abbrev pub trees_edges : List ShownTree → List Edge
trees_edges [] = []
trees_edges (t ∷ ts) = shown_edges t.boxes ++ trees_edges ts

abbrev pub folded_drawing : List ShownTree → Bool → Drawing
folded_drawing trees is_large =
    record {
      whole = whole_sets is_large;
      all_nodes = node_defaults;
      all_edges = edge_defaults;
      nodes = trees_nodes trees;
      clusters = trees_clusters trees;
      edges = trees_edges trees;
    }
