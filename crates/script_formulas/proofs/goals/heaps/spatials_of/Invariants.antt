use Rattle.std.proofs.Common.{take}
use Rattle.std.specs.List.{AllZip}
use Rattle.script_formulas.specs.Translating.{IsSpatialOf}
use Rattle.script_formulas.proofs.goals.heaps.spatials_of.Given as goal

abbrev pub invariant-loop-atom : goal.invariant-loop-atom
invariant-loop-atom l = AllZip (IsSpatialOf l.numbers l.variables) (take l.atom-index l.atoms) l.made.items
