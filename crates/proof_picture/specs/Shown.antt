-- What stands in a folded picture, without where it lies in memory.
use Rattle.std.specs.Prelude.{ℕ, Bool, List, map, Option, option_map}
use Rattle.heap_formula.specs.declared.proof_rules.RuleFault.{RuleFault}
use Rattle.proof_picture.specs.Pieces.{LabelPart, pieces_of}
use Rattle.proof_picture.specs.Arrows.{Drawn, drawn_of}
use Rattle.proof_picture.specs.declared.folds.shown.ShownBox.{ShownBox}
use Rattle.proof_picture.specs.declared.folds.shown.Tree.{Tree}

-- a box: its first node and its last, the number of nodes of a closed subtree, whether its last node uses a lemma, its
-- text, its fault and its edges
pub record Shown : Type 0 where
  pub first : ℕ
  pub last : ℕ
  pub count : Option ℕ
  pub uses_lemma : Bool
  pub label : List LabelPart
  pub fault : Option RuleFault
  pub arrows : List Drawn

abbrev pub shown_of : ShownBox → Shown
shown_of s = record {
  first = s.first;
  last = s.last;
  count = s.count;
  uses_lemma = s.uses_lemma;
  label = pieces_of s.label;
  fault = s.fault;
  arrows = map drawn_of s.arrows.items;
}

-- a tree: what it says, where it is a lemma's, and its boxes
pub record ShownTree : Type 0 where
  pub says : Option (List LabelPart)
  pub boxes : List Shown

abbrev pub tree_of : Tree → ShownTree
tree_of t = record { says = option_map pieces_of t.says; boxes = map shown_of t.boxes.items }
