use Rattle.std.proofs.Common.{◌≡◌, ◌++◌}
use Rattle.script_formulas.proofs.cases.joining.all_cases.Given as goal

abbrev pub invariant-loop-case : goal.invariant-loop-case
invariant-loop-case l = l.made.items ≡ l.fn.first.items ++ l.yielded
