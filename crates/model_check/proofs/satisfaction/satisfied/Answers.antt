use Rattle.std.proofs.Common.{subst}
use Rattle.std.specs.Prelude.{◌↔◌, IsTrue, IfOk, List, ℕ}
use Rattle.heap_formula.specs.Meaning.{Satisfies}
use Rattle.model_check.proofs.Exact.{never}
use Rattle.model_check.proofs.satisfaction.satisfied.Goals as goal

pub returns-in-None : goal.returns-in-None
returns-in-None c = rw (← c.as_slice.ensures)
    (record {
      exact = never c.args.defs.now.list c.args.heap.now c.as_slice.result.now c.args.ask.now
          (rw c.in-None.is at c.in_ok-locals_of.ensures);
    })

pub returns-in-Some : goal.returns-in-Some
returns-in-Some c = record {
  exact = subst (λ (s : List ℕ). IfOk c.satisfied_with.result
      (λ b. IsTrue b ↔ Satisfies c.args.defs.now.list s c.args.heap.now c.args.ask.now))
      c.as_slice-in-Some.ensures c.satisfied_with.ensures;
}
