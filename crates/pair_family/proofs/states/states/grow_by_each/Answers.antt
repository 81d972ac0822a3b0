use Rattle.std.proofs.Common.{◌≡◌, ◌↔◌, ◌+◌, [], ◌∷◌, ◌⊎◌, drop, subst, Err, ap, arith}
use Rattle.std.proofs.lemmas.Grind.{common_steps}
use Rattle.std.proofs.lemmas.Result.{err_from_is_err_and}
use Rattle.std.proofs.lemmas.List.{drop_more}
use Rattle.std.proofs.Math.ListN.{drop_of_length-le}
use Rattle.heap_formula.specs.Words.{OneOf}
use Rattle.pair_family.specs.BasePairs.{BasePair}
use Rattle.pair_family.specs.LargeCases.{sizes, HasMore}
use Rattle.cyc_basics.specs.Words.{IsMember}
use Rattle.pair_family.specs.declared.states.states.StatesFault.TheVariants.{TooManyStates}
use Rattle.pair_family.specs.Labels.{Gives}
use Rattle.pair_family.proofs.Growing.{extends_then, grows_step, grows_end}
use Rattle.pair_family.proofs.Sized.{many_step, room_then}
use Rattle.pair_family.proofs.states.states.grow_by_each.Goals as goal

pub loop-pair-preserved : goal.loop-pair-preserved
loop-pair-preserved c =
    let G = λ
    (d x : BasePair). Gives c.args.step.now.numbers.now c.args.state.now c.args.step.now.places.now
    c.args.step.now.kept.now d x in
    let here : drop c.loop-pair.pair-index c.args.pairs.now ≡ c.pair-item.result
    ∷ drop (c.loop-pair.pair-index + 1) c.args.pairs.now = grind
    (arith, common_steps, drop_more c.args.pairs.now c.loop-pair.pair-index c.pair-item.result) in
    let inv = λ (d : BasePair). let i = c.loop-pair.invariant.grown d in
    subst (λ xs. (IsMember d c.loop-pair.set.keys ⊎ OneOf (G d) xs)
    ↔ (IsMember d c.args.set.now.keys ⊎ OneOf (G d) c.args.pairs.now)) here i in
    record {
      room = room_then (c.args.room + sizes c.args.set.now.keys)
          c.loop-pair.set.keys c.grow_by.new.set.keys c.loop-pair.left c.in_ok-left.left c.loop-pair.invariant.room
          c.in_ok-left.ensures.room;
      extends = extends_then c.args.set.now.keys c.loop-pair.set.keys c.grow_by.new.set.keys
          c.loop-pair.invariant.extends c.in_ok-left.ensures.extends;
      grown = grows_step c.loop-pair.set.keys c.grow_by.new.set.keys G c.pair-item.result
          (drop (c.loop-pair.pair-index + 1) c.args.pairs.now)
          (λ d. IsMember d c.args.set.now.keys ⊎ OneOf (G d) c.args.pairs.now) inv c.in_ok-left.ensures.grown;
    }

pub returns-in_err-left-clause-many : goal.returns-in_err-left-clause-many
returns-in_err-left-clause-many c =
    let G = λ
    (d x : BasePair). Gives c.args.step.now.numbers.now c.args.state.now c.args.step.now.places.now
    c.args.step.now.kept.now d x in
    let here : drop c.loop-pair.pair-index c.args.pairs.now ≡ c.pair-item.result
    ∷ drop (c.loop-pair.pair-index + 1) c.args.pairs.now = grind
    (arith, common_steps, drop_more c.args.pairs.now c.loop-pair.pair-index c.pair-item.result) in
    let inv = λ (d : BasePair). let i = c.loop-pair.invariant.grown d in
    subst (λ xs. (IsMember d c.loop-pair.set.keys ⊎ OneOf (G d) xs)
    ↔ (IsMember d c.args.set.now.keys ⊎ OneOf (G d) c.args.pairs.now)) here i in
    λ e. many_step (c.args.room + sizes c.args.set.now.keys)
    c.args.set.now.keys c.loop-pair.set.keys G c.pair-item.result
    (drop (c.loop-pair.pair-index + 1) c.args.pairs.now) c.args.pairs.now inv
    (subst (λ n. HasMore n (λ d. IsMember d c.loop-pair.set.keys ⊎ G d c.pair-item.result))
    c.loop-pair.invariant.room.room (c.in_err-left.ensures.many
    (let p = err_from_is_err_and c.from_residual.result c.from_residual.ensures.1 in let p1 = p.1 in let p2 = p.2 in
    let f : c.in_err-left.field-0.0 ≡ TooManyStates = cc in ap Err f)))

pub returns-clause-grown : goal.returns-clause-grown
returns-clause-grown c =
    let G = λ
    (d x : BasePair). Gives c.args.step.now.numbers.now c.args.state.now c.args.step.now.places.now
    c.args.step.now.kept.now d x in
    let none : drop c.loop-pair.pair-index c.args.pairs.now
    ≡ [] = grind (arith, common_steps, drop_of_length-le c.args.pairs.now) in
    grows_end c.args.set.now.keys c.loop-pair.set.keys G c.args.pairs.now
    (λ d. let i = c.loop-pair.invariant.grown d in subst
    (λ xs. (IsMember d c.loop-pair.set.keys ⊎ OneOf (G d) xs)
    ↔ (IsMember d c.args.set.now.keys ⊎ OneOf (G d) c.args.pairs.now)) none i)

pub grow_by-requires : goal.grow_by-requires
grow_by-requires c = c.loop-pair.invariant.room.distinct
