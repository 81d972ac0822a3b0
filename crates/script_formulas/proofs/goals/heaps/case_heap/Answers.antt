use Rattle.script_formulas.specs.declared.goals.heaps.Variables.{Variables}
use Rattle.script_formulas.specs.declared.goals.heaps.Quantified.TheVariants.{Local}
use Rattle.script_formulas.proofs.GoalSteps.{case_of}
use Rattle.script_formulas.proofs.goals.heaps.case_heap.Goals as goal

pub returns : goal.returns
returns c =
    let v : Variables = record { free = c.args.free; quantified = Local c.deref.result } in
    case_of c.args.numbers.now v c.args.case.now c.heap_of.result tt c.heap_of.ensures
