-- What is written of a file: its values as trees, predicates by their names in place of their numbers.
use Rattle.std.specs.Prelude.{ℕ, ◌+◌, true, false, List, [], ◌∷◌, map}
use Rattle.heap_formula.specs.declared.terms.Term.{Term}
use Rattle.heap_formula.specs.declared.terms.Term.TheVariants as terms
use Rattle.heap_formula.specs.declared.commands.Command.{Command}
use Rattle.heap_formula.specs.declared.commands.Command.TheVariants as commands
use Rattle.heap_formula.specs.declared.judgements.Judgement.{Judgement}
use Rattle.heap_formula.specs.declared.judgements.Judgement.TheVariants.{Entail, Term as Halting}
use Rattle.heap_formula.specs.declared.proof_rules.Side.{Side}
use Rattle.heap_formula.specs.declared.proof_rules.Side.TheVariants as sides
use Rattle.heap_formula.specs.declared.proof_rules.Rule.{Rule}
use Rattle.heap_formula.specs.declared.proof_rules.Rule.TheVariants as rules
use Rattle.heap_formula.specs.declared.proof_rules.Link.{Link as LinkValue}
use Rattle.heap_formula.specs.declared.proof_rules.Reason.{Reason as ReasonValue}
use Rattle.heap_formula.specs.declared.proof_rules.Reason.TheVariants.{Step, Back}
use Rattle.heap_formula.specs.Definitions.{Definition as DefinitionValue}
use Rattle.cyc_lex.specs.Spacing.{text_of}
use Rattle.heap_syntax.specs.declared.version.Version.{Version}
pub use Rattle.heap_reader.specs.Written.{term_tree, pure_tree, name_in, name_of, spatial_tree, heap_tree}
pub use Rattle.heap_reader.specs.Written.{definition_tree, end_tree, ends_tree}
use Rattle.heap_syntax.specs.declared.lines.tree.OperandTree.{OperandTree}
use Rattle.heap_syntax.specs.declared.lines.tree.OperandTree.TheVariants as operands
use Rattle.heap_syntax.specs.declared.lines.tree.ChangeTree.TheVariants as changes
use Rattle.heap_syntax.specs.declared.lines.tree.CommandTree.{CommandTree}
use Rattle.heap_syntax.specs.declared.lines.tree.CommandTree.TheVariants.{Stop, Goto, Free, IfAny, If, StoreAtNil}
use Rattle.heap_syntax.specs.declared.lines.tree.CommandTree.TheVariants.{Change}
use Rattle.proof_syntax.specs.declared.tree.SideTree.{SideTree}
use Rattle.proof_syntax.specs.declared.tree.SideTree.TheVariants.{Left, Right}
use Rattle.proof_syntax.specs.declared.tree.PairTree.{PairTree}
use Rattle.proof_syntax.specs.Trees.{Line, Judgement as JudgementTree, Entails, From, LinkData, Reason, Absurd, Rewrite}
use Rattle.proof_syntax.specs.Trees.{Split, Distinct, Weaken, Unfold, Cut, Done, Choose, PureRight, Instantiate, Frame}
use Rattle.proof_syntax.specs.Trees.{UnfoldRight, Exec, Drop, Link, Node, File}
use Rattle.proof_syntax.specs.Grammar.{body}
use Rattle.proof_file.specs.FileNodes.{FileNode}

-- ---- lines

-- no existential variable stands in a program
abbrev pub operand_tree : Term → OperandTree ℕ
operand_tree terms.Nil = operands.Nil
operand_tree (terms.Univ n) = operands.Variable n
operand_tree (terms.Exist n) = operands.Nil

abbrev pub store_tree : Term → ℕ → Term → CommandTree ℕ
store_tree terms.Nil k u = StoreAtNil k (operand_tree u)
store_tree (terms.Univ x) k u = Change x (changes.Store k (operand_tree u))
store_tree (terms.Exist x) k u = StoreAtNil k (operand_tree u)

-- an end stands apart from its line, which is a stop
abbrev pub command_tree : Command → CommandTree ℕ
command_tree commands.Stop = Stop
command_tree (commands.IfAny j) = IfAny j
command_tree (commands.Goto j) = Goto j
command_tree (commands.Free t) = Free (operand_tree t)
command_tree (commands.IfEq t u j) = If (operand_tree t) true (operand_tree u) j
command_tree (commands.IfNeq t u j) = If (operand_tree t) false (operand_tree u) j
command_tree (commands.New x k) = Change x (changes.New k)
command_tree (commands.Assign x t) = Change x (changes.Assign (operand_tree t))
command_tree (commands.Load x t k) = Change x (changes.Load (operand_tree t) k)
command_tree (commands.Store t k u) = store_tree t k u
command_tree (commands.Ends bs) = Stop

-- the lines with these commands, of which n stand before
abbrev pub lines_behind : ℕ → List Command → List Line
lines_behind n [] = []
lines_behind n (c ∷ cs) = record { number = n + 1; command = command_tree c } ∷ lines_behind (n + 1) cs

abbrev pub lines_tree : List Command → List Line
lines_tree cs = lines_behind 0 cs

-- ---- nodes

abbrev pub judgement_tree : List DefinitionValue → Judgement → JudgementTree
judgement_tree ds (Entail a bs) = Entails (record { antecedent = heap_tree ds a; disjuncts = map (heap_tree ds) bs })
judgement_tree ds (Halting i a) = From i (heap_tree ds a)

abbrev pub side_tree : Side → SideTree
side_tree sides.Left = Left
side_tree sides.Right = Right

abbrev pub pair_tree : ℕ × Term → PairTree
pair_tree p = record { variable = p.0; value = term_tree p.1 }

abbrev pub link_tree : LinkValue → LinkData
link_tree l = record {
  target = l.target;
  substitution = map pair_tree l.subst;
  mapped = l.map;
  disjuncts = l.disjuncts;
}

abbrev pub rule_tree : List DefinitionValue → Rule → Reason
rule_tree ds rules.Absurd = Absurd
rule_tree ds (rules.Rewrite k side) = Rewrite k (side_tree side)
rule_tree ds (rules.Split t u) = Split (term_tree t) (term_tree u)
rule_tree ds (rules.Distinct i j) = Distinct i j
rule_tree ds (rules.Weaken k) = Weaken k
rule_tree ds (rules.Unfold k) = Unfold k
rule_tree ds (rules.Cut places formula) = Cut places (heap_tree ds formula)
rule_tree ds rules.Done = Done
rule_tree ds (rules.Choose j) = Choose j
rule_tree ds (rules.PureRight k) = PureRight k
rule_tree ds (rules.Instantiate v t) = Instantiate v (term_tree t)
rule_tree ds (rules.Frame i j) = Frame i j
rule_tree ds (rules.UnfoldRight j c) = UnfoldRight j c
rule_tree ds rules.Exec = Exec
rule_tree ds (rules.Drop k) = Drop k

abbrev pub reason_tree : List DefinitionValue → ReasonValue → Reason
reason_tree ds (Step rule) = rule_tree ds rule
reason_tree ds (Back link) = Link (link_tree link)

abbrev pub node_tree : List DefinitionValue → FileNode → Node
node_tree ds n = record {
  judgement = judgement_tree ds n.judgement;
  reason = reason_tree ds n.reason;
  premises = n.premises;
}

-- the tree of a version with these definitions, lines with their ends, and nodes
abbrev pub tree_of : Version → List DefinitionValue → List Command → List FileNode → File
tree_of version ds cs ns = record {
  version = version;
  definitions = map (definition_tree ds) ds;
  lines = lines_tree cs;
  ends = ends_tree ds cs;
  nodes = map (node_tree ds) ns;
}

-- their text
abbrev pub text_of_file : Version → List DefinitionValue → List Command → List FileNode → List ℕ
text_of_file version ds cs ns = text_of (body.words (tree_of version ds cs ns))
