use Rattle.std.proofs.Common.{◌≡◌, ◌++◌, take, List, Ok}
use Rattle.script_formulas.specs.Cases.{SymbolicCase}
use Rattle.script_formulas.specs.Joining.{join_with}
use Rattle.script_formulas.proofs.cases.joining.push_joined.Given as goal

abbrev pub invariant-loop-b : goal.invariant-loop-b
invariant-loop-b l = (cs : List SymbolicCase) × (join_with l.way l.depth l.a (take l.b-index l.bs) ≡ Ok cs)
    × (l.made.items ≡ l.fn.made.items ++ cs)
