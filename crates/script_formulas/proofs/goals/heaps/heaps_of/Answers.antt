use Rattle.std.proofs.Common.{◌≡◌, ◌++◌, ◌∷◌, [], arith}
use Rattle.std.proofs.lemmas.Grind.{common_steps}
use Rattle.script_formulas.specs.Translating.{IsCaseOf}
use Rattle.script_formulas.proofs.Zipping.{zip_more}
use Rattle.script_formulas.proofs.goals.heaps.heaps_of.Goals as goal

pub loop-case-preserved : goal.loop-case-preserved
loop-case-preserved c =
    let heap = c.in_ok-case_heap.field-0 in
    let pushed : c.push.new.self.items ≡ c.loop-case.heaps.items ++ heap ∷ [] = grind (arith, common_steps) in
    zip_more (IsCaseOf c.args.numbers.now c.args.free) c.args.cases.now c.loop-case.case-index c.case-item.result
    c.loop-case.heaps.items c.push.new.self.items heap c.loop-case-test.true c.case-item.is pushed
    c.loop-case.invariant c.in_ok-case_heap.ensures
