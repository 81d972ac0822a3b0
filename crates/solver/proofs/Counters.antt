-- A stack and a heap that refute an entailment are a counter-model of its problem, as a model file has them.
use Rattle.std.proofs.Common.{◌≡◌, List, Option, Some, None, Result, Ok, Err, subst, sym}
use Rattle.std.specs.Prelude.{IfOk}
use Rattle.heap_formula.specs.declared.judgements.Judgement.{Judgement}
use Rattle.heap_formula.specs.declared.judgements.Judgement.TheVariants.{Entail}
use Rattle.heap_formula.specs.Cells.{Cells}
use Rattle.heap_formula.specs.Judgements.{JudgementHolds}
use Rattle.heap_formula.specs.Meaning.{EntailmentHolds, Satisfies, SatisfiesOne}
use Rattle.heap_formula.specs.Symbolic.{SymbolicHeap}
use Rattle.heap_formula.specs.Values.{Stack}
use Rattle.formula_reader.specs.declared.problem.Problem.{Problem}
use Rattle.model_file.specs.declared.file.Model.{Model}
use Rattle.counter_model.specs.Files.{IsFileFor, IsModelFor}
use Rattle.solver.specs.Solutions.{IsCounterModel, IsFoundCounter, IsRefuting}

module _ (p : Problem) (a : SymbolicHeap) (bs : List SymbolicHeap) (s : Stack) (h : Cells) (goal : p.goal ≡ Entail a bs)
    (refuting : IsRefuting p.defs.list a bs s h) where
  fails : ¬ JudgementHolds p.defs.list p.program p.goal
  fails holds =
      let entails : EntailmentHolds p.defs.list a bs = subst (λ (j : Judgement). JudgementHolds p.defs.list p.program j)
      goal holds in
      refuting.none (entails s h refuting.antecedent)

  counter : (m : Model) → IsFileFor p a s h m → IsCounterModel p m
  counter m is = record {
    definitions = is.definitions;
    disjuncts = bs;
    goal = subst (λ (x : SymbolicHeap). p.goal ≡ Entail x bs) (sym is.ask) goal;
    antecedent =
        subst (λ (x : SymbolicHeap). Satisfies p.defs.list m.stack m.heap x) (sym is.ask)
        (subst (λ (x : Stack). Satisfies p.defs.list x m.heap a) (sym is.stack)
        (subst (λ (x : Cells). Satisfies p.defs.list s x a) (sym is.heap) refuting.antecedent));
    none =
        subst (λ (x : Stack). ¬ SatisfiesOne p.defs.list x m.heap bs) (sym is.stack)
        (subst (λ (x : Cells). ¬ SatisfiesOne p.defs.list s x bs) (sym is.heap) refuting.none);
    fails = fails;
  }

  found_counter : (o : Option Model) → IsModelFor p a s h o → IsFoundCounter p o
  found_counter (Some m) is = counter m is
  found_counter None is = tt

  pub counter_file : {E : Type 0} (r : Result (Option Model) E) → IfOk r (IsModelFor p a s h)
      → IfOk r (IsFoundCounter p)
  counter_file (Ok o) is = found_counter o is
  counter_file (Err e) is = tt
