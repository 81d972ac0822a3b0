-- Trees without where they lie in memory.
use Rattle.std.specs.Prelude.{ℕ, List, map}
use Rattle.heap_syntax.specs.declared.definitions.tree.TermTree.{TermTree}
pub use Rattle.heap_syntax.specs.DefinitionTrees.{Cell, Predicate, PureTree, Spatial, Heap, Definition, spatial_of}
pub use Rattle.heap_syntax.specs.DefinitionTrees.{heap_of, definition_of}
pub use Rattle.heap_syntax.specs.NumberedEnds.{End, end_of}
use Rattle.heap_syntax.specs.declared.version.Version.{Version}
use Rattle.heap_syntax.specs.declared.lines.tree.LineTree.{LineTree}
use Rattle.proof_syntax.specs.declared.tree.EntailmentTree.{EntailmentTree}
use Rattle.proof_syntax.specs.declared.tree.JudgementTree.{JudgementTree}
use Rattle.proof_syntax.specs.declared.tree.JudgementTree.TheVariants as judgements
use Rattle.proof_syntax.specs.declared.tree.SideTree.{SideTree}
use Rattle.proof_syntax.specs.declared.tree.PairTree.{PairTree}
use Rattle.proof_syntax.specs.declared.tree.LinkTree.{LinkTree}
use Rattle.proof_syntax.specs.declared.tree.ReasonTree.{ReasonTree}
use Rattle.proof_syntax.specs.declared.tree.ReasonTree.TheVariants as reasons
use Rattle.proof_syntax.specs.declared.tree.NodeTree.{NodeTree}
use Rattle.proof_syntax.specs.declared.tree.FileTree.{FileTree}

-- a line of the program, where a variable is its number
abbrev pub Line : Type 0
Line = LineTree ℕ

pub record Entailment : Type 0 where
  pub antecedent : Heap
  pub disjuncts : List Heap

pub data Judgement : Type 0 where
  Entails : Entailment → Judgement
  From : ℕ → Heap → Judgement

pub record LinkData : Type 0 where
  pub target : ℕ
  pub substitution : List PairTree
  pub mapped : List ℕ
  pub disjuncts : List ℕ

pub data Reason : Type 0 where
  Absurd : Reason
  Rewrite : ℕ → SideTree → Reason
  Split : TermTree → TermTree → Reason
  Distinct : ℕ → ℕ → Reason
  Weaken : ℕ → Reason
  Unfold : ℕ → Reason
  Cut : List ℕ → Heap → Reason
  Done : Reason
  Choose : ℕ → Reason
  PureRight : ℕ → Reason
  Instantiate : ℕ → TermTree → Reason
  Frame : ℕ → ℕ → Reason
  UnfoldRight : ℕ → ℕ → Reason
  Exec : Reason
  Drop : ℕ → Reason
  Link : LinkData → Reason

pub record Node : Type 0 where
  pub judgement : Judgement
  pub reason : Reason
  pub premises : List ℕ

pub record File : Type 0 where
  pub version : Version
  pub definitions : List Definition
  pub lines : List Line
  pub ends : List End
  pub nodes : List Node

-- ---- what a contract sees of the code's trees

abbrev pub entailment_of : EntailmentTree → Entailment
entailment_of e = record { antecedent = heap_of e.antecedent; disjuncts = map heap_of e.disjuncts.items }

abbrev pub judgement_of : JudgementTree → Judgement
judgement_of (judgements.Entailment e) = Entails (entailment_of e)
judgement_of (judgements.From n h) = From n (heap_of h)

abbrev pub link_of : LinkTree → LinkData
link_of l = record {
  target = l.target;
  substitution = l.substitution.items;
  mapped = l.map.items;
  disjuncts = l.disjuncts.items;
}

abbrev pub reason_of : ReasonTree → Reason
reason_of reasons.Absurd = Absurd
reason_of (reasons.Rewrite k side) = Rewrite k side
reason_of (reasons.Split t u) = Split t u
reason_of (reasons.Distinct i j) = Distinct i j
reason_of (reasons.Weaken k) = Weaken k
reason_of (reasons.Unfold k) = Unfold k
reason_of (reasons.Cut positions formula) = Cut positions.items (heap_of formula)
reason_of reasons.Done = Done
reason_of (reasons.Choose j) = Choose j
reason_of (reasons.PureRight k) = PureRight k
reason_of (reasons.Instantiate v t) = Instantiate v t
reason_of (reasons.Frame i j) = Frame i j
reason_of (reasons.UnfoldRight j c) = UnfoldRight j c
reason_of reasons.Exec = Exec
reason_of (reasons.Drop k) = Drop k
reason_of (reasons.Link l) = Link (link_of l)

abbrev pub node_of : NodeTree → Node
node_of n = record { judgement = judgement_of n.judgement; reason = reason_of n.reason; premises = n.premises.items }

abbrev pub file_of : FileTree → File
file_of f = record {
  version = f.version;
  definitions = map definition_of f.definitions.items;
  lines = f.lines.items;
  ends = map end_of f.ends.items;
  nodes = map node_of f.nodes.items;
}
