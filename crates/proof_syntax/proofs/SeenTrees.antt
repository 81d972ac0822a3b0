-- A line is seen as it is.
use Rattle.std.proofs.Common.{◌≡◌, ℕ, List, [], ◌∷◌, refl, ap}
use Rattle.std.specs.Prelude.{map}
use Rattle.heap_syntax.specs.declared.lines.tree.OperandTree.{OperandTree}
use Rattle.heap_syntax.specs.declared.lines.tree.OperandTree.TheVariants.{Nil, Variable}
use Rattle.heap_syntax.specs.declared.lines.tree.ChangeTree.{ChangeTree}
use Rattle.heap_syntax.specs.declared.lines.tree.ChangeTree.TheVariants.{New, Assign, Load, Store}
use Rattle.heap_syntax.specs.declared.lines.tree.CommandTree.{CommandTree}
use Rattle.heap_syntax.specs.declared.lines.tree.CommandTree.TheVariants.{Stop, Goto, Free, IfAny, If, StoreAtNil}
use Rattle.heap_syntax.specs.declared.lines.tree.CommandTree.TheVariants.{Change}
use Rattle.heap_syntax.specs.LineTrees.{operand_of, change_of, command_of, line_of}
use Rattle.proof_syntax.specs.Trees.{Line}

abbrev pub number_itself : ℕ → ℕ
number_itself n = n

operand-same : (t : OperandTree ℕ) → operand_of number_itself t ≡ t
operand-same Nil = refl
operand-same (Variable v) = refl

change-same : (c : ChangeTree ℕ) → change_of number_itself c ≡ c
change-same (New n) = refl
change-same (Assign t) = ap (λ u. Assign u) (operand-same t)
change-same (Load t n) = ap (λ u. Load u n) (operand-same t)
change-same (Store n t) = ap (λ u. Store n u) (operand-same t)

command-same : (c : CommandTree ℕ) → command_of number_itself c ≡ c
command-same Stop = refl
command-same (IfAny n) = refl
command-same (Goto n) = refl
command-same (Free t) = ap (λ u. Free u) (operand-same t)
command-same (If t b u n) = rw (operand-same t, operand-same u) refl
command-same (StoreAtNil n t) = ap (λ u. StoreAtNil n u) (operand-same t)
command-same (Change v c) = ap (λ d. Change v d) (change-same c)

pub line-same : (l : Line) → line_of number_itself l ≡ l
line-same l = rw (command-same l.command) refl

pub lines-same : (ls : List Line) → map (line_of number_itself) ls ≡ ls
lines-same [] = refl
lines-same (l ∷ ls) = rw (line-same l, lines-same ls) refl
