use Rattle.std.proofs.Common.{take}
use Rattle.std.specs.List.{AllZip}
use Rattle.script_formulas.specs.Translating.{IsPureOf}
use Rattle.script_formulas.proofs.goals.heaps.pures_of.Given as goal

abbrev pub invariant-loop-atom : goal.invariant-loop-atom
invariant-loop-atom l = AllZip (IsPureOf l.variables) (take l.atom-index l.atoms) l.made.items
