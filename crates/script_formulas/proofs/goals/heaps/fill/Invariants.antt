use Rattle.std.proofs.Common.{◌≡◌, ◌++◌}
use Rattle.std.specs.Prelude.{replicate}
use Rattle.heap_formula.specs.declared.terms.Term.TheVariants.{Nil}
use Rattle.script_formulas.proofs.goals.heaps.fill.Given as goal

abbrev pub invariant-loop : goal.invariant-loop
invariant-loop l = l.terms.items ≡ l.fn.terms.items ++ replicate l.counter Nil
