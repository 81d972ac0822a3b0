use Rattle.std.proofs.Common.{drop}
use Rattle.heap_formula.specs.Words.{Each}
use Rattle.solve_top.specs.Frames.{IsJoined}
use Rattle.solve_top.proofs.findings.are_joined.Given as goal

-- If those that are left are joined, all are.
abbrev pub invariant-loop-whole : goal.invariant-loop-whole
invariant-loop-whole l = Each (IsJoined l.asked) (drop l.whole-index l.disjuncts) → Each (IsJoined l.asked) l.disjuncts
