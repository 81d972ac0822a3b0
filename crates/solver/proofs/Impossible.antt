-- Where nothing satisfies the antecedent the goal holds.
use Rattle.std.proofs.Common.{◌≡◌, Bool, true, false, subst}
use Rattle.std.specs.Prelude.{◌↔◌, IsTrue, not}
use Rattle.heap_formula.specs.Judgements.{antecedent}
use Rattle.heap_formula.specs.Symbolic.{SymbolicHeap}
use Rattle.pair_family.specs.Statements.{IsSatisfiable}
use Rattle.formula_reader.specs.declared.problem.Problem.{Problem}
use Rattle.command_answers.proofs.Impossible.{impossible_holds}
use Rattle.solver.specs.Solutions.{IsImpossible}

none_satisfies : (p : Problem) (answer : Bool) → IsTrue answer ↔ IsSatisfiable p.defs.list (antecedent p.goal)
    → IsTrue (not answer) → ¬ IsSatisfiable p.defs.list (antecedent p.goal)
none_satisfies p true exact denied s = let z : false ≡ true = denied in cc
none_satisfies p false exact denied s = let z : false ≡ true = exact.1 s in cc

pub is_impossible : (p : Problem) (a : SymbolicHeap) (answer : Bool) → a ≡ antecedent p.goal → IsTrue answer
    ↔ IsSatisfiable p.defs.list a → IsTrue (not answer) → IsImpossible p
is_impossible p a answer same exact denied =
    let none = none_satisfies p answer (subst (λ (x : SymbolicHeap). IsTrue answer ↔ IsSatisfiable p.defs.list x)
    same exact) denied in
    record { impossible = none; holds = impossible_holds p.defs.list p.program p.goal none }
