use Rattle.heap_formula.specs.Words.{Each}
use Rattle.goto_lang.specs.Lines.{IsUniversalCommand, commands_of}
use Rattle.logic_tests.proofs.goto_lang_tests.lines_of.Given as goal

abbrev pub invariant-loop-number : goal.invariant-loop-number
invariant-loop-number l = Each IsUniversalCommand (commands_of l.copies.items)
