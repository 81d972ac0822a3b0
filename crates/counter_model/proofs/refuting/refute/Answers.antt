use Rattle.std.proofs.Common.{subst, ◌≡◌, List, Some, None}
use Rattle.heap_formula.specs.declared.judgements.Judgement.TheVariants.{Entail}
use Rattle.heap_formula.specs.Symbolic.{SymbolicHeap}
use Rattle.heap_formula.specs.Fresh.{judgement_bound}
use Rattle.heap_formula.specs.Values.{Stack}
use Rattle.heap_formula.specs.Cells.{Cells}
use Rattle.counter_model.specs.declared.refuting.Refuted.TheVariants.{NotFound, Found}
use Rattle.counter_model.specs.FirstCounter.{IsFirstCounter}
use Rattle.model_check.specs.FirstPlaces.{IsFirstPlace}
use Rattle.counter_model.specs.Leaders.{IsLeader}
use Rattle.counter_model.proofs.Finish.{found_first, none_found, same_bound}
use Rattle.counter_model.proofs.Refusals.{bound_is, place_named, no_place_named, not_found_other, found_other}
use Rattle.counter_model.proofs.Refusals.{found_stack, found_heap, none_left}
use Rattle.counter_model.proofs.refuting.refute.Goals as goal

pub returns-in-Some-clause-not_constructive : goal.returns-in-Some-clause-not_constructive
returns-in-Some-clause-not_constructive c =
    let b : c.max-bound.result ≡ judgement_bound (Entail c.args.antecedent.now c.args.disjuncts.now)
    = bound_is c.args.antecedent.now c.args.disjuncts.now c.heaps.result.now c.max-bound.result
    c.bound_of_heap.result c.bound_of_heaps.result c.max-bound.ensures c.bound_of_heap.ensures.value
    c.bound_of_heaps.ensures c.heaps.ensures.value in
    place_named c.args.defs.now.list c.args.antecedent.now c.args.disjuncts.now c.heaps-2.result.now c.max-bound.result
    c.in-Some.place b c.if-bound-gt-MOST_UNIVERSALS.false c.heaps-2.ensures.value
    (rw c.in-Some.is at c.in_ok-place.ensures.first)

pub returns-in-None-clause-not_found : goal.returns-in-None-clause-not_found
returns-in-None-clause-not_found c = λ _.
    let b : c.max-bound.result ≡ judgement_bound (Entail c.args.antecedent.now c.args.disjuncts.now)
    = bound_is c.args.antecedent.now c.args.disjuncts.now c.heaps.result.now c.max-bound.result
    c.bound_of_heap.result c.bound_of_heaps.result c.max-bound.ensures c.bound_of_heap.ensures.value
    c.bound_of_heaps.ensures c.heaps.ensures.value in
    none_found c.args.defs.now.list c.args.antecedent.now c.args.disjuncts.now c.args.cells
    (same_bound c.args.cells c.max-bound.result _ c.args.defs.now.list c.args.antecedent.now c.args.disjuncts.now
    None b (subst
    (λ (bs : List SymbolicHeap). IsLeader c.args.cells c.max-bound.result c.args.defs.now.list c.args.antecedent.now
    bs None) c.heaps-3.ensures.value (rw c.in-None.is at c.in_ok-first_model.ensures)))

pub returns-in-None-clause-not_constructive : goal.returns-in-None-clause-not_constructive
returns-in-None-clause-not_constructive c =
    no_place_named c.args.defs.now.list c.args.antecedent.now c.args.disjuncts.now c.heaps-2.result.now NotFound
    not_found_other c.heaps-2.ensures.value (rw (none_left c.in_ok-place.field-0 c.in_default.not-Some)
    at c.in_ok-place.ensures.first)

pub returns-in-Some-2-clause-found : goal.returns-in-Some-2-clause-found
returns-in-Some-2-clause-found c = λ s h e.
    let b : c.max-bound.result ≡ judgement_bound (Entail c.args.antecedent.now c.args.disjuncts.now)
    = bound_is c.args.antecedent.now c.args.disjuncts.now c.heaps.result.now c.max-bound.result
    c.bound_of_heap.result c.bound_of_heaps.result c.max-bound.ensures c.bound_of_heap.ensures.value
    c.bound_of_heaps.ensures c.heaps.ensures.value in
    let k = found_first c.args.defs.now.list c.args.antecedent.now c.args.disjuncts.now c.args.cells c.in-Some-2.model
    (same_bound c.args.cells c.max-bound.result _ c.args.defs.now.list c.args.antecedent.now c.args.disjuncts.now
    (Some c.in-Some-2.model) b
    (subst (λ
    (bs : List SymbolicHeap). IsLeader c.args.cells c.max-bound.result c.args.defs.now.list c.args.antecedent.now bs
    (Some c.in-Some-2.model)) c.heaps-3.ensures.value (rw c.in-Some-2.is at c.in_ok-first_model.ensures))) in
    subst (λ
    (t : Stack). IsFirstCounter c.args.defs.now.list c.args.antecedent.now c.args.disjuncts.now c.args.cells t h)
    (found_stack c.in-Some-2.model.stack s c.in-Some-2.model.heap h e)
    (subst (λ
    (g : Cells). IsFirstCounter c.args.defs.now.list c.args.antecedent.now c.args.disjuncts.now c.args.cells
    c.in-Some-2.model.stack g) (found_heap c.in-Some-2.model.stack s c.in-Some-2.model.heap h e) k)

pub returns-in-Some-2-clause-not_constructive : goal.returns-in-Some-2-clause-not_constructive
returns-in-Some-2-clause-not_constructive c =
    no_place_named c.args.defs.now.list c.args.antecedent.now c.args.disjuncts.now c.heaps-2.result.now
    (Found c.in-Some-2.model.stack c.in-Some-2.model.heap)
    (found_other c.in-Some-2.model.stack c.in-Some-2.model.heap) c.heaps-2.ensures.value
    (rw (none_left c.in_ok-place.field-0 c.in_default.not-Some) at c.in_ok-place.ensures.first)

pub returns-in-None-clause-not_found_searched : goal.returns-in-None-clause-not_found_searched
returns-in-None-clause-not_found_searched c = λ _.
    subst (λ (bs : List SymbolicHeap). IsFirstPlace c.args.defs.now.list bs None) c.heaps-2.ensures.value
    (rw (none_left c.in_ok-place.field-0 c.in_default.not-Some) at c.in_ok-place.ensures.first)

pub returns-in-Some-2-clause-found_searched : goal.returns-in-Some-2-clause-found_searched
returns-in-Some-2-clause-found_searched c = λ s h _.
    subst (λ (bs : List SymbolicHeap). IsFirstPlace c.args.defs.now.list bs None) c.heaps-2.ensures.value
    (rw (none_left c.in_ok-place.field-0 c.in_default.not-Some) at c.in_ok-place.ensures.first)
