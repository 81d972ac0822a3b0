use Rattle.std.proofs.Common.{List, ℕ, subst}
use Rattle.std.specs.Prelude.{◌↔◌, IsTrue, IfOk}
use Rattle.heap_formula.specs.Meaning.{Satisfies}
use Rattle.general_models.proofs.RangedRounds.{some_place}
use Rattle.general_models.proofs.general.satisfied_in_general.Goals as goal

pub returns-in-Some-clause-exact : goal.returns-in-Some-clause-exact
returns-in-Some-clause-exact c =
    subst (λ (s : List ℕ). IfOk c.satisfied_over.result
    (λ b. IsTrue b ↔ Satisfies c.args.defs.now.list s c.args.heap.now c.args.ask.now))
    c.as_slice.ensures c.satisfied_over.ensures

pub returns-in-Some-clause-constructive : goal.returns-in-Some-clause-constructive
returns-in-Some-clause-constructive c = λ all here e.
    some_place c.args.defs.now.list c.args.ask.now c.in-Some.field-0 (rw c.in-Some.is at c.in_ok-place.ensures.first)
    all here
