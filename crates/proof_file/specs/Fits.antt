-- A tree fits the grammar in one way.
use Rattle.std.specs.Prelude.{Bool, true, false, [], ◌∷◌}
use Rattle.std.proofs.Common.{inl, inr}
use Rattle.std.specs.Coded.{×_prop, Unit-prop, le_prop}
use Rattle.cyc_grammar.specs.Syntax.{one, uncons}
use Rattle.cyc_grammar.specs.Classes.{number}
use Rattle.proof_syntax.specs.declared.reason_word.ReasonWord.{ReasonWord}
use Rattle.proof_syntax.specs.declared.reason_word.ReasonWord.TheVariants as words
use Rattle.heap_syntax.specs.Fits.{HasOneFit, many-fit, list-fit, sign-fit, uterm-fit, heap-fit, heaps-fit}
use Rattle.heap_syntax.specs.Fits.{definition-fit, ends-fit}
use Rattle.proof_syntax.specs.Trees.{Entails, From}
use Rattle.heap_syntax.specs.declared.version.Version.{Version}
use Rattle.heap_syntax.specs.declared.lines.tree.OperandTree.TheVariants as operands
use Rattle.heap_syntax.specs.declared.lines.tree.ChangeTree.TheVariants as changes
use Rattle.heap_syntax.specs.declared.lines.tree.CommandTree.TheVariants.{Stop, Goto, Free, IfAny, If, StoreAtNil}
use Rattle.heap_syntax.specs.declared.lines.tree.CommandTree.TheVariants.{Change}
use Rattle.heap_syntax.specs.LineGrammar as commands
use Rattle.proof_syntax.specs.Grammar.{definition, variable, lines, disjuncts, entailment, state, judgement, numbers}
use Rattle.proof_syntax.specs.Grammar.{bracketed, two_numbers, side, rewrite, split, cut, instantiate, pair, pairs1}
use Rattle.proof_syntax.specs.Grammar.{pairs, link, parts, reason, premises, node, definitions, more_nodes, nodes, body}
use Rattle.proof_syntax.specs.Grammar.{file, from_reason, comma, or_word, by_word, some_pair, some_node}

-- ---- judgements

judgement-fit : HasOneFit judgement
unfolding judgement entailment state disjuncts
judgement-fit (Entails e) =
    ×_prop Unit-prop (×_prop Unit-prop (×_prop (heap-fit true e.antecedent) (heaps-fit or_word by_word e.disjuncts)))
judgement-fit (From n h) = ×_prop Unit-prop (×_prop le_prop (heap-fit true h))

-- ---- lines

operand-fit : HasOneFit (commands.operand variable)
unfolding commands.operand variable
operand-fit operands.Nil = ×_prop Unit-prop Unit-prop
operand-fit (operands.Variable n) = ×_prop Unit-prop le_prop

change-fit : HasOneFit (commands.change variable)
unfolding commands.change commands.source commands.store commands.field commands.last_number
change-fit (changes.New n) = ×_prop Unit-prop le_prop
change-fit (changes.Assign t) = ×_prop Unit-prop (×_prop (operand-fit t) Unit-prop)
change-fit (changes.Load t n) = ×_prop Unit-prop (×_prop (operand-fit t) le_prop)
change-fit (changes.Store n t) = ×_prop Unit-prop (×_prop le_prop (operand-fit t))

branch-fit : HasOneFit (commands.branch variable)
unfolding commands.branch commands.last_number
branch-fit p = ×_prop (operand-fit p.0) (×_prop (sign-fit p.1.0) (×_prop (operand-fit p.1.1.0) le_prop))

behind_if-fit : (free : Bool) → HasOneFit (commands.behind_if free variable)
unfolding commands.behind_if commands.free_branch commands.last_number
behind_if-fit true (inl n) = le_prop
behind_if-fit true (inr p) = branch-fit p
behind_if-fit false (inl n) = λ f g. absurd f.0
behind_if-fit false (inr p) = ×_prop Unit-prop (branch-fit p)

command-fit : (version : Version) → HasOneFit (commands.command version variable)
unfolding commands.command commands.update commands.store commands.last_number variable
command-fit version Stop = ×_prop Unit-prop Unit-prop
command-fit version (IfAny n) = ×_prop Unit-prop (behind_if-fit (commands.has_free_branches version) (inl n))
command-fit version (Goto n) = ×_prop Unit-prop le_prop
command-fit version (Free t) = ×_prop Unit-prop (operand-fit t)
command-fit version (If t b u n) = ×_prop Unit-prop
    (behind_if-fit (commands.has_free_branches version) (inr (t, (b, (u, n)))))
command-fit version (StoreAtNil n t) = ×_prop Unit-prop (×_prop le_prop (operand-fit t))
command-fit version (Change v c) = ×_prop Unit-prop (×_prop le_prop (change-fit c))

line-fit : (version : Version) → HasOneFit (commands.line version variable)
unfolding commands.line
line-fit version l = ×_prop Unit-prop (×_prop le_prop (command-fit version l.command))

lines-fit : (version : Version) → HasOneFit (lines version)
unfolding commands.lines
lines-fit version ls = many-fit (commands.line version variable) (line-fit version) ls

-- ---- reasons

numbers-fit : HasOneFit numbers
unfolding numbers
numbers-fit ns = many-fit (one number) (λ n. le_prop) ns

bracketed-fit : HasOneFit bracketed
unfolding bracketed
bracketed-fit ns = numbers-fit ns

pair-fit : HasOneFit pair
unfolding pair
pair-fit p = ×_prop Unit-prop (×_prop le_prop (uterm-fit p.value))

pairs-fit : HasOneFit pairs
unfolding pairs pairs1
pairs-fit [] = ×_prop Unit-prop Unit-prop
pairs-fit (p ∷ ps) = ×_prop Unit-prop (list-fit some_pair comma pair pair-fit (p ∷ ps))

link-fit : HasOneFit link
unfolding link
link-fit l =
    ×_prop Unit-prop (×_prop le_prop (×_prop (pairs-fit l.substitution)
    (×_prop (bracketed-fit l.mapped) (bracketed-fit l.disjuncts))))

parts-fit : (w : ReasonWord) → HasOneFit (parts w)
unfolding parts rewrite side split two_numbers cut instantiate
parts-fit words.Absurd p = Unit-prop
parts-fit words.Rewrite p = ×_prop le_prop Unit-prop
parts-fit words.Split p = ×_prop (uterm-fit p.0) (uterm-fit p.1)
parts-fit words.Distinct p = ×_prop le_prop le_prop
parts-fit words.Weaken p = le_prop
parts-fit words.Unfold p = le_prop
parts-fit words.Cut p = ×_prop (bracketed-fit p.0) (heap-fit false p.1)
parts-fit words.Done p = Unit-prop
parts-fit words.Choose p = le_prop
parts-fit words.PureRight p = le_prop
parts-fit words.Instantiate p = ×_prop le_prop (uterm-fit p.1)
parts-fit words.Frame p = ×_prop le_prop le_prop
parts-fit words.UnfoldRight p = ×_prop le_prop le_prop
parts-fit words.Exec p = Unit-prop
parts-fit words.Drop p = le_prop
parts-fit words.Link p = link-fit p

reason-fit : HasOneFit reason
unfolding reason
reason-fit r = ×_prop Unit-prop (×_prop Unit-prop (parts-fit (from_reason r).0 (from_reason r).1))

premises-fit : HasOneFit premises
unfolding premises
premises-fit [] = ×_prop Unit-prop Unit-prop
premises-fit (n ∷ ns) = ×_prop Unit-prop (×_prop le_prop (numbers-fit ns))

-- ---- nodes and files

node-fit : HasOneFit node
unfolding node
node-fit n =
    ×_prop Unit-prop (×_prop (judgement-fit n.judgement) (×_prop (reason-fit n.reason) (premises-fit n.premises)))

nodes-fit : HasOneFit nodes
unfolding nodes more_nodes
nodes-fit ns =
    ×_prop le_prop (×_prop (node-fit (uncons some_node ns).0) (many-fit node node-fit (uncons some_node ns).1))

pub file-fit : HasOneFit file
unfolding file body definitions
file-fit f =
    ×_prop Unit-prop (×_prop Unit-prop (×_prop (many-fit definition definition-fit f.definitions)
    (×_prop (lines-fit f.version f.lines) (×_prop (ends-fit f.version f.ends) (nodes-fit f.nodes)))))
