use Rattle.std.proofs.Common.{take}
use Rattle.script_formulas.specs.declared.goals.heaps.Free.TheVariants.{Placed}
use Rattle.script_formulas.specs.Translating.{AreHeapsOf}
use Rattle.script_formulas.proofs.goals.succedents.disjuncts_of.Given as goal

abbrev pub invariant-loop-case : goal.invariant-loop-case
invariant-loop-case l = AreHeapsOf l.numbers (Placed l.universals.constants l.universals.order)
    (take l.case-index l.cases) l.heaps.items
