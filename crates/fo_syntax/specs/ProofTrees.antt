-- Trees without where they lie in memory.
use Rattle.std.specs.Prelude.{ℕ, List, map}
use Rattle.std.specs.Prelude.{Vec}
use Rattle.std.specs.Global.{Global}
use Rattle.fo_syntax.specs.Trees.{Sign, Atom, sign_of, atom_of}
use Rattle.fo_syntax.specs.declared.terms.tree.SignTree.{SignTree}
use Rattle.fo_syntax.specs.ProblemTrees.{Constructor, Definition, Sequent, constructor_of, definition_of, sequent_of}
use Rattle.fo_syntax.specs.declared.proofs.tree.SideTree.{SideTree}
use Rattle.fo_syntax.specs.declared.proofs.tree.PairTree.{PairTree}
use Rattle.fo_syntax.specs.declared.proofs.tree.LinkTree.{LinkTree}
use Rattle.fo_syntax.specs.declared.proofs.tree.ReasonTree.{ReasonTree}
use Rattle.fo_syntax.specs.declared.proofs.tree.ReasonTree.TheVariants as reasons
use Rattle.fo_syntax.specs.declared.proofs.tree.NodeTree.{NodeTree}
use Rattle.fo_syntax.specs.declared.proofs.tree.FileTree.{FileTree}
use Rattle.fo_syntax.specs.declared.proofs.reason_word.ReasonWord.{ReasonWord}
use Rattle.fo_syntax.specs.declared.proofs.reason_word.ReasonWord.TheVariants as words

-- an entry of a substitution
pub record Entry : Type 0 where
  pub variable : ℕ
  pub value : List Sign

pub record LinkData : Type 0 where
  pub target : ℕ
  pub substitution : List Entry
  pub left : List ℕ
  pub right : List ℕ

pub data Reason : Type 0 where
  Axiom : ℕ → ℕ → Reason
  Refl : ℕ → Reason
  Clash : ℕ → Reason
  Decompose : ℕ → Reason
  Replace : ℕ → SideTree → Reason
  WeakenLeft : ℕ → Reason
  WeakenRight : ℕ → Reason
  Contract : ℕ → Reason
  Unfold : ℕ → Reason
  Cut : Atom → Reason
  Right : ℕ → ℕ → List (List Sign) → Reason
  Link : LinkData → Reason

pub record Node : Type 0 where
  pub sequent : Sequent
  pub reason : Reason
  pub premises : List ℕ

pub record File : Type 0 where
  pub constructors : List Constructor
  pub definitions : List Definition
  pub nodes : List Node

-- ---- what a contract sees of the code's trees

abbrev pub signs_of : Vec SignTree Global → List Sign
signs_of v = map sign_of v.items

abbrev pub entry_of : PairTree → Entry
entry_of p = record { variable = p.variable; value = signs_of p.value }

abbrev pub link_of : LinkTree → LinkData
link_of l = record {
  target = l.target;
  substitution = map entry_of l.substitution.items;
  left = l.left.items;
  right = l.right.items;
}

abbrev pub reason_of : ReasonTree → Reason
reason_of (reasons.Axiom i j) = Axiom i j
reason_of (reasons.Refl j) = Refl j
reason_of (reasons.Clash i) = Clash i
reason_of (reasons.Decompose i) = Decompose i
reason_of (reasons.Replace i side) = Replace i side
reason_of (reasons.WeakenLeft i) = WeakenLeft i
reason_of (reasons.WeakenRight j) = WeakenRight j
reason_of (reasons.Contract i) = Contract i
reason_of (reasons.Unfold i) = Unfold i
reason_of (reasons.Cut a) = Cut (atom_of a)
reason_of (reasons.Right j k terms) = Right j k (map signs_of terms.items)
reason_of (reasons.Link l) = Link (link_of l)

-- the word with which a reason begins
abbrev pub word_of_reason : Reason → ReasonWord
word_of_reason (Axiom i j) = words.Axiom
word_of_reason (Refl j) = words.Refl
word_of_reason (Clash i) = words.Clash
word_of_reason (Decompose i) = words.Decompose
word_of_reason (Replace i side) = words.Replace
word_of_reason (WeakenLeft i) = words.WeakenLeft
word_of_reason (WeakenRight j) = words.WeakenRight
word_of_reason (Contract i) = words.Contract
word_of_reason (Unfold i) = words.Unfold
word_of_reason (Cut a) = words.Cut
word_of_reason (Right j k terms) = words.Right
word_of_reason (Link l) = words.Link

abbrev pub node_of : NodeTree → Node
node_of n = record { sequent = sequent_of n.sequent; reason = reason_of n.reason; premises = n.premises.items }

abbrev pub file_of : FileTree → File
file_of f = record {
  constructors = map constructor_of f.constructors.items;
  definitions = map definition_of f.definitions.items;
  nodes = map node_of f.nodes.items;
}
