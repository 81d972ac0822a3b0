use Rattle.std.proofs.Common.{◌≡◌, take}
use Rattle.goto_lang.specs.Lines.{commands_of}
use Rattle.goto_lang.proofs.programs.commands.Given as goal

abbrev pub invariant-loop-command : goal.invariant-loop-command
invariant-loop-command l = l.made.items ≡ commands_of (take l.command-index l.lines)
