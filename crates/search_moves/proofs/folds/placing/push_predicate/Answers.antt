use Rattle.std.proofs.Common.{rules, ◌≡◌, ◌++◌, ◌<◌, length, List}
use Rattle.heap_formula.specs.Symbolic.{SymbolicHeap}
use Rattle.search_moves.specs.Folds.{folds_of_case}
use Rattle.search_moves.proofs.Rest.{step_of}
use Rattle.search_moves.proofs.folds.placing.push_predicate.Goals as goal

pub loop-case-preserved : goal.loop-case-preserved
loop-case-preserved c =
    let cases : List SymbolicHeap = c.args.def.now.cases in
    let f = folds_of_case c.args.state.now c.args.predicate c.args.def.now.arity in
    let l : c.loop-case.case-index < length cases = search rules in
    let at : c.case-item.result ≡ lib.ListN.get_or cases c.loop-case.case-index c.case-item.result = search rules in
    let given : c.push_case.new.rules.items ≡ c.loop-case.rules.items ++ f c.case-item.result = search rules in
    step_of f c.loop-case.case-index cases c.case-item.result c.loop-case.rules.items c.push_case.new.rules.items _ l at
    given c.loop-case.invariant
