-- A picture as a drawing in DOT.
use Rattle.std.specs.Prelude.{ℕ, suc, Bool, true, false, List, [], ◌∷◌, ◌++◌, map, codes, decimal, Option, Some, None}
use Rattle.std.specs.Prelude.{is_some}
use Rattle.heap_formula.specs.declared.judgements.Pair.{Pair}
use Rattle.heap_formula.specs.declared.proof_rules.RuleFault.{RuleFault}
use Rattle.cyc_runs.specs.Names.{fault_name_of, fault_number_of}
use Rattle.cyc_runs.specs.Texts.{number_text}
use Rattle.draw_top.specs.Graphs.{Look, Plain, Bold, LabelRun, Text, Break, Quoted, Label as LabelSetting, Set, Node}
use Rattle.draw_top.specs.Graphs.{Edge, Drawing}
use Rattle.proof_picture.specs.Pieces.{LabelPart, Words, Space, Line}
use Rattle.proof_picture.specs.Arrows.{Drawn}
use Rattle.proof_picture.specs.Pictures.{Box}

-- a name is set to a string
abbrev pub set_to : List ℕ → List ℕ → Set
set_to name value = record { name = name; value = Quoted value }

-- what is refused is red, and drawn by a thick line
abbrev pub refused_sets : Bool → List Set
refused_sets true = set_to (codes "color") (codes "red") ∷ set_to (codes "penwidth") (codes "2") ∷ []
refused_sets false = []

-- ---- nodes

-- what stands out is blue and bold
abbrev pub words_look : Bool → Look
words_look true = Bold (codes "#1f4fbf")
words_look false = Plain

abbrev pub part_run : LabelPart → LabelRun
part_run (Words bold text) = Text (words_look bold) text
part_run Space = Text Plain (codes " ")
part_run Line = Break

-- what the check says of a node with a fault, without its line feed
abbrev pub fault_line : ℕ → RuleFault → List ℕ
fault_line v fault = codes "refused node " ++ decimal v ++ codes " " ++ fault_name_of fault
    ++ number_text (fault_number_of fault)

-- a line for a fault
abbrev pub fault_runs : ℕ → Option RuleFault → List LabelRun
fault_runs v None = []
fault_runs v (Some fault) = Text (Bold (codes "red")) (fault_line v fault) ∷ Break ∷ []

-- the number of a node, its text, and its fault
abbrev pub label_runs : ℕ → List LabelPart → Option RuleFault → List LabelRun
label_runs v parts fault =
    Text (Bold (codes "#707070")) (decimal v) ∷ Break ∷ (map part_run parts ++ (Break ∷ fault_runs v fault))

abbrev pub box_node : ℕ → List LabelPart → Option RuleFault → Node
box_node v parts fault =
    record {
      number = v;
      sets = record { name = codes "label"; value = LabelSetting (label_runs v parts fault) }
          ∷ refused_sets (is_some fault);
    }

-- the nodes of the boxes from v on
abbrev pub box_nodes : ℕ → List Box → List Node
box_nodes v [] = []
box_nodes v (b ∷ bs) = box_node v b.label b.fault ∷ box_nodes (suc v) bs

-- ---- edges

-- the positions of the atoms before and after a step, with an arrow to the right between them
abbrev pub pair_text : Pair → List ℕ
pair_text p = decimal p.old ++ (226 ∷ 134 ∷ 146 ∷ []) ++ decimal p.new

-- progress is green and bold
abbrev pub progress_look : Bool → Look
progress_look true = Bold (codes "#0a7d2c")
progress_look false = Plain

abbrev pub pair_look : Pair → Look
pair_look p = progress_look p.progress

-- the pairs, each after a space
abbrev pub pairs_runs : List Pair → List LabelRun
pairs_runs [] = []
pairs_runs (p ∷ ps) = Text Plain (codes " ") ∷ Text (pair_look p) (pair_text p) ∷ pairs_runs ps

-- a label with the pairs, if there are some
abbrev pub pairs_sets : List Pair → List Set
pairs_sets [] = []
pairs_sets (p ∷ ps) = record { name = codes "label"; value = LabelSetting (pairs_runs (p ∷ ps)) } ∷ []

-- a link is dashed, and is no step down
abbrev pub link_sets : Bool → List Set
link_sets true = set_to (codes "style") (codes "dashed") ∷ set_to (codes "constraint") (codes "false") ∷ []
link_sets false = []

abbrev pub arrow_sets : Drawn → List Set
arrow_sets a = pairs_sets a.pairs ++ link_sets a.is_link ++ refused_sets a.is_refused

abbrev pub arrow_edge : ℕ → Drawn → Edge
arrow_edge v a = record { from = v; to = a.target; sets = arrow_sets a }

abbrev pub arrow_edges : ℕ → List Drawn → List Edge
arrow_edges v [] = []
arrow_edges v (a ∷ others) = arrow_edge v a ∷ arrow_edges v others

-- the edges of the boxes from v on
abbrev pub box_edges : ℕ → List Box → List Edge
box_edges v [] = []
box_edges v (b ∷ bs) = arrow_edges v b.arrows ++ box_edges (suc v) bs

-- ---- the whole

abbrev pub note_text : List ℕ
note_text = codes "limit states: not checked, so nothing stands in red"

-- that no verdict is known stands below the picture
abbrev pub note_sets : Bool → List Set
note_sets true = set_to (codes "label") note_text ∷ []
note_sets false = []

abbrev pub whole_sets : Bool → List Set
whole_sets is_large =
    set_to (codes "ordering") (codes "out") ∷ set_to (codes "fontname") (codes "sans-serif") ∷ note_sets is_large

abbrev pub node_defaults : List Set
node_defaults =
    set_to (codes "shape") (codes "box") ∷ set_to (codes "fontname") (codes "monospace")
    ∷ set_to (codes "fontsize") (codes "11") ∷ []

abbrev pub edge_defaults : List Set
edge_defaults = set_to (codes "fontname") (codes "monospace") ∷ set_to (codes "fontsize") (codes "10") ∷ []

-- the drawing of these boxes
abbrev pub drawing : List Box → Bool → Drawing
drawing boxes is_large =
    record {
      whole = whole_sets is_large;
      all_nodes = node_defaults;
      all_edges = edge_defaults;
      nodes = box_nodes 0 boxes;
      clusters = [];
      edges = box_edges 0 boxes;
    }
