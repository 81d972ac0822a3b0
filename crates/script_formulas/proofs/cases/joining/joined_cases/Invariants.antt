use Rattle.std.proofs.Common.{◌≡◌, take, Ok}
use Rattle.script_formulas.specs.Joining.{join_lists}
use Rattle.script_formulas.proofs.cases.joining.joined_cases.Given as goal

abbrev pub invariant-loop-a : goal.invariant-loop-a
invariant-loop-a l = join_lists l.way l.depth (take l.a-index l.first) l.second ≡ Ok l.made.items
