use Rattle.std.proofs.Common.{◌≡◌, drop}
use Rattle.heap_formula.specs.Programs.{has_ends}
use Rattle.goto_lang.proofs.programs.Program.has_ends.Given as goal

abbrev pub invariant-loop-command : goal.invariant-loop-command
invariant-loop-command l = has_ends (drop l.command-index l.command-items) ≡ has_ends l.self
