use Rattle.std.proofs.Common.{subst}
use Rattle.std.specs.Prelude.{◌↔◌, IsTrue, IfOk, List, ℕ}
use Rattle.model_check.specs.Parts.{SomePartSatisfies}
use Rattle.model_check.proofs.Exact.{never_part}
use Rattle.model_check.proofs.satisfaction.satisfied_by_part.Goals as goal

pub returns-in-None : goal.returns-in-None
returns-in-None c = rw (← c.as_slice.ensures)
    (record {
      exact = never_part c.args.defs.now.list c.args.heap.now c.as_slice.result.now c.args.ask.now
          (rw c.in-None.is at c.in_ok-locals_of.ensures);
    })

pub returns-in-Some : goal.returns-in-Some
returns-in-Some c = record {
  exact = subst (λ (s : List ℕ). IfOk c.satisfied_by_part_with.result
      (λ b. IsTrue b ↔ SomePartSatisfies c.args.defs.now.list s c.args.heap.now c.args.ask.now))
      c.as_slice-in-Some.ensures c.satisfied_by_part_with.ensures;
}
