use Rattle.std.proofs.Common.{◌≡◌, ◌++◌, drop}
use Rattle.proof_file.specs.Written.{lines_behind, lines_tree}
use Rattle.proof_file.proofs.texts.line_trees.lines.Given as goal

abbrev pub invariant-loop-i : goal.invariant-loop-i
invariant-loop-i l = l.trees.items ++ lines_behind l.i (drop l.i l.commands) ≡ lines_tree l.commands
