use Rattle.std.proofs.Common.{◌≡◌, drop, map}
use Rattle.std.specs.Prelude.{max}
use Rattle.heap_formula.specs.Words.{max_of}
use Rattle.heap_formula.specs.Programs.{command_bound}
use Rattle.goto_lang.proofs.programs.bound_of_lines.Given as goal

abbrev pub invariant-loop-command : goal.invariant-loop-command
invariant-loop-command l = max l.most (max_of (map command_bound (drop l.command-index l.lines)))
    ≡ max_of (map command_bound l.lines)
