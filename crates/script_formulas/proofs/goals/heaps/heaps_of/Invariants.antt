use Rattle.std.proofs.Common.{take}
use Rattle.script_formulas.specs.Translating.{AreHeapsOf}
use Rattle.script_formulas.proofs.goals.heaps.heaps_of.Given as goal

abbrev pub invariant-loop-case : goal.invariant-loop-case
invariant-loop-case l = AreHeapsOf l.numbers l.free (take l.case-index l.cases) l.heaps.items
