-- What a file's tree says: predicates by their numbers in place of their names.
use Rattle.std.specs.Prelude.{ℕ, List, map}
use Rattle.heap_formula.specs.declared.terms.Term.{Term}
use Rattle.heap_formula.specs.declared.judgements.Judgement.{Judgement}
use Rattle.heap_formula.specs.declared.judgements.Judgement.TheVariants.{Term as Halting}
use Rattle.heap_formula.specs.declared.proof_rules.Side.{Side}
use Rattle.heap_formula.specs.declared.proof_rules.Side.TheVariants as sides
use Rattle.heap_formula.specs.declared.proof_rules.Rule.TheVariants as rules
use Rattle.heap_formula.specs.declared.proof_rules.Link.{Link as LinkValue}
use Rattle.heap_formula.specs.declared.proof_rules.Reason.{Reason as ReasonValue}
use Rattle.heap_formula.specs.declared.proof_rules.Reason.TheVariants.{Step, Back}
use Rattle.heap_reader.specs.Trees.{Heading}
pub use Rattle.heap_reader.specs.DefinitionValues.{term_value, definition_value}
use Rattle.heap_reader.specs.Values.{heap_value, entailment_value}
use Rattle.proof_syntax.specs.declared.tree.SideTree.{SideTree}
use Rattle.proof_syntax.specs.declared.tree.SideTree.TheVariants.{Left, Right}
use Rattle.proof_syntax.specs.declared.tree.PairTree.{PairTree}
use Rattle.proof_syntax.specs.Trees.{Judgement as JudgementTree, Entails, From, LinkData, Reason, Absurd, Rewrite}
use Rattle.proof_syntax.specs.Trees.{Split, Distinct, Weaken, Unfold, Cut, Done, Choose, PureRight, Instantiate, Frame}
use Rattle.proof_syntax.specs.Trees.{UnfoldRight, Exec, Drop, Link, Node}
use Rattle.proof_file.specs.FileNodes.{FileNode}

abbrev pub judgement_value : List Heading → JudgementTree → Judgement
judgement_value hs (Entails e) = entailment_value term_value hs e.antecedent e.disjuncts
judgement_value hs (From n h) = Halting n (heap_value term_value hs h)

abbrev pub side_value : SideTree → Side
side_value Left = sides.Left
side_value Right = sides.Right

abbrev pub pair_value : PairTree → ℕ × Term
pair_value p = (p.variable, term_value p.value)

abbrev pub link_value : LinkData → LinkValue
link_value l = record {
  target = l.target;
  subst = map pair_value l.substitution;
  map = l.mapped;
  disjuncts = l.disjuncts;
}

abbrev pub reason_value : List Heading → Reason → ReasonValue
reason_value hs Absurd = Step rules.Absurd
reason_value hs (Rewrite k side) = Step (rules.Rewrite k (side_value side))
reason_value hs (Split t u) = Step (rules.Split (term_value t) (term_value u))
reason_value hs (Distinct i j) = Step (rules.Distinct i j)
reason_value hs (Weaken k) = Step (rules.Weaken k)
reason_value hs (Unfold k) = Step (rules.Unfold k)
reason_value hs (Cut places formula) = Step (rules.Cut places (heap_value term_value hs formula))
reason_value hs Done = Step rules.Done
reason_value hs (Choose j) = Step (rules.Choose j)
reason_value hs (PureRight k) = Step (rules.PureRight k)
reason_value hs (Instantiate v t) = Step (rules.Instantiate v (term_value t))
reason_value hs (Frame i j) = Step (rules.Frame i j)
reason_value hs (UnfoldRight j c) = Step (rules.UnfoldRight j c)
reason_value hs Exec = Step rules.Exec
reason_value hs (Drop k) = Step (rules.Drop k)
reason_value hs (Link l) = Back (link_value l)

abbrev pub node_value : List Heading → Node → FileNode
node_value hs n = record {
  judgement = judgement_value hs n.judgement;
  reason = reason_value hs n.reason;
  premises = n.premises;
}
