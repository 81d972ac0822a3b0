-- A picture folded: its nodes in order, each in a box of its own, or taken into another.
use Rattle.std.specs.Prelude.{◌≡◌, ℕ, ◌+◌, Bool, ◌&&◌, nat_lt, List, [], ◌∷◌, ◌++◌, map, Option, Some, None}
use Rattle.std.specs.Prelude.{if◌then◌else◌}
use Rattle.proof_picture.specs.Pieces.{LabelPart}
use Rattle.proof_picture.specs.Pictures.{Box}
use Rattle.proof_picture.specs.declared.folds.entries.Entry.{Entry}
use Rattle.proof_picture.specs.declared.folds.fates.Fate.{Fate}
use Rattle.proof_picture.specs.declared.folds.shown.FoldedPicture.{FoldedPicture}
use Rattle.proof_picture.specs.Boxes.{shown_at}
use Rattle.proof_picture.specs.Entries.{entries_in, root_in}
use Rattle.proof_picture.specs.Fates.{fates_in}
use Rattle.proof_picture.specs.Hidden.{hidden_in, is_hidden}
use Rattle.proof_picture.specs.Texts.{judgement_in}
use Rattle.proof_picture.specs.Shown.{Shown, ShownTree, tree_of}

-- what was found out of the nodes
pub record Findings : Type 0 where
  pub entries : List Entry
  pub fates : List Fate
  pub hidden : List Bool

abbrev pub findings_in : List Box → Findings
findings_in bs = record { entries = entries_in bs; fates = fates_in bs; hidden = hidden_in (fates_in bs) bs }

-- how far the nodes have come: the trees before; the root of the one at hand, what it says, and its boxes
pub record Folding : Type 0 where
  pub trees : List ShownTree
  pub root : ℕ
  pub says : Option (List LabelPart)
  pub boxes : List Shown

abbrev pub unfolded : Folding
unfolded = record { trees = []; root = 0; says = None; boxes = [] }

-- a tree begins with node v
abbrev pub at_root : Folding → ℕ → Box → Folding
at_root s v b =
    record {
      trees = s.trees ++ record { says = s.says; boxes = s.boxes } ∷ [];
      root = v;
      says = Some (judgement_in b.label);
      boxes = [];
    }

-- node 0 begins the first tree, and each other node that is no premise one more
abbrev pub in_tree : Folding → List Entry → ℕ → Box → Folding
in_tree s entries v b = if nat_lt 0 v && root_in entries v then at_root s v b else s

abbrev pub with_box : Folding → Shown → Folding
with_box s shown = record { trees = s.trees; root = s.root; says = s.says; boxes = s.boxes ++ shown ∷ [] }

abbrev pub boxed : Folding → List Box → Findings → ℕ → Box → Folding
boxed s bs found v b = with_box s (shown_at bs found.entries found.fates s.root v b)

-- one more node
abbrev pub fold_node : Folding → List Box → Findings → ℕ → Box → Folding
fold_node s bs found v b = if is_hidden found.hidden v then s else boxed (in_tree s found.entries v b) bs found v b

abbrev pub fold_nodes : Folding → List Box → Findings → ℕ → List Box → Folding
fold_nodes s bs found v [] = s
fold_nodes s bs found v (b ∷ others) = fold_nodes (fold_node s bs found v b) bs found (v + 1) others

-- the trees with the one at hand
abbrev pub all_trees : Folding → List ShownTree
all_trees s = s.trees ++ record { says = s.says; boxes = s.boxes } ∷ []

-- the boxes of a picture, folded
abbrev pub folded_trees : List Box → List ShownTree
folded_trees bs = all_trees (fold_nodes unfolded bs (findings_in bs) 0 bs)

pub record IsFolded (boxes : List Box) (large : Bool) (p : FoldedPicture) : Type 0 where
  pub trees : map tree_of p.trees.items ≡ folded_trees boxes
  pub is_large : p.is_large ≡ large
