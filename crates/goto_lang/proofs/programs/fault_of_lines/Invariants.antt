use Rattle.std.proofs.Common.{◌≡◌, ◌+◌, drop, length}
use Rattle.goto_lang.specs.Faults.{lines_fault}
use Rattle.goto_lang.proofs.programs.fault_of_lines.Given as goal

abbrev pub invariant-loop-i : goal.invariant-loop-i
invariant-loop-i l = lines_fault (length l.lines) (l.i + 1) (drop l.i l.lines) ≡ lines_fault (length l.lines) 1 l.lines
