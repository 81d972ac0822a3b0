use Rattle.std.proofs.Common.{◌≡◌, ◌⊎◌, ◌+◌, ◌-◌, ℕ, List, Err, [], length, take, drop, refl, sym, ap, subst, arith}
use Rattle.std.proofs.lemmas.Result.{err_from_is_err_and}
use Rattle.pair_family.specs.BasePairs.{BasePair}
use Rattle.pair_family.specs.Labels.{GivesFrom, Grows}
use Rattle.pair_family.specs.LargeCases.{HasMore, sizes}
use Rattle.pair_family.specs.declared.states.states.StatesFault.TheVariants.{TooManyStates}
use Rattle.cyc_basics.specs.Words.{IsMember}
use Rattle.std.proofs.lemmas.List.{take_rest}
use Rattle.sat_pairs.specs.declared.stages.Stage.{Stage}
use Rattle.pair_family.proofs.Growing.{extends_then}
use Rattle.sat_pairs.proofs.Staged.{first_many, second_many, second_grown, lists_are, take_whole}
use Rattle.sat_pairs.proofs.stages.Stage.take_in.Goals as goal

abbrev came : Stage → List BasePair → List BasePair
came s pairs = take (length pairs - s.taken) (drop s.taken pairs)

pub returns-in_err-room-clause-many : goal.returns-in_err-room-clause-many
returns-in_err-room-clause-many c e =
    let s = c.args.self.now in
    let most = s.room + sizes s.states.keys in
    let q = err_from_is_err_and c.from_residual.result c.from_residual.ensures.1 in
    let q1 = q.1 in
    let q2 = q.2 in
    let f : c.in_err-room.field-0.0 ≡ TooManyStates = cc in
    let P : List ℕ → List BasePair → List ℕ → List ℕ → List BasePair → Type 0 = λ n b p k cs.
    HasMore most (λ d. IsMember d s.states.keys ⊎ GivesFrom n b p k cs d) in
    first_many s c.args.pairs.now c.args.before.now c.args.done c.requires.taken most
    (lists_are P c.deref.result.now s.numbers.items c.deref-2.result.now s.places.items c.deref-3.result.now
    s.kept.items c.split_at.result.0.now (take c.args.done c.args.before.now) (came s c.args.pairs.now)
    (drop s.taken c.args.pairs.now) c.deref.ensures.value c.split_at.ensures.front c.deref-2.ensures.value
    c.deref-3.ensures.value (take_rest c.args.pairs.now s.taken) (c.in_err-room.ensures.many (ap Err f)))

pub returns-in_err-left-clause-many : goal.returns-in_err-left-clause-many
returns-in_err-left-clause-many c e =
    let s = c.args.self.now in
    let now = c.grow_states.new.set.keys in
    let most = s.room + sizes s.states.keys in
    let q = err_from_is_err_and c.from_residual-in_err-left.result c.from_residual-in_err-left.ensures.1 in
    let q1 = q.1 in
    let q2 = q.2 in
    let f : c.in_err-left.field-0.0 ≡ TooManyStates = cc in
    let G : List ℕ → List BasePair → List ℕ → List ℕ → List BasePair → Type 0 = λ n b p k cs.
    Grows s.states.keys now (GivesFrom n b p k cs) in
    let first = lists_are G c.deref.result.now s.numbers.items c.deref-2.result.now s.places.items
    c.deref-3.result.now s.kept.items c.split_at.result.0.now (take c.args.done c.args.before.now)
    (came s c.args.pairs.now) (drop s.taken c.args.pairs.now) c.deref.ensures.value c.split_at.ensures.front
    c.deref-2.ensures.value c.deref-3.ensures.value (take_rest c.args.pairs.now s.taken) c.in_ok-room.ensures.grown in
    let P : List ℕ → List BasePair → List ℕ → List ℕ → List BasePair → Type 0 = λ n b p k cs.
    HasMore most (λ d. IsMember d now ⊎ GivesFrom n b p k cs d) in
    let more = subst (λ z. HasMore z (λ d. IsMember d now ⊎ GivesFrom c.deref.result.now c.split_at.result.1.now
    c.deref-2.result.now c.deref-3.result.now c.args.pairs.now d)) c.in_ok-room.ensures.room.room
    (c.in_err-left.ensures.many (ap Err f)) in
    second_many s c.args.pairs.now c.args.before.now c.args.done c.requires.taken now first most
    (lists_are P c.deref.result.now s.numbers.items c.deref-2.result.now s.places.items c.deref-3.result.now
    s.kept.items c.split_at.result.1.now (drop c.args.done c.args.before.now) c.args.pairs.now c.args.pairs.now
    c.deref.ensures.value c.split_at.ensures.back c.deref-2.ensures.value c.deref-3.ensures.value refl more)

pub returns-clause-taken : goal.returns-clause-taken
returns-clause-taken c =
    let s = c.args.self.now in
    let now = c.grow_states.new.set.keys in
    let after = c.grow_states-2.new.set.keys in
    let before = c.args.before.now in
    let pairs = c.args.pairs.now in
    let G : List ℕ → List BasePair → List ℕ → List ℕ → List BasePair → Type 0 = λ n b p k cs.
    Grows s.states.keys now (GivesFrom n b p k cs) in
    let first = lists_are G c.deref.result.now s.numbers.items c.deref-2.result.now s.places.items
    c.deref-3.result.now s.kept.items c.split_at.result.0.now (take c.args.done before)
    (came s pairs) (drop s.taken pairs) c.deref.ensures.value c.split_at.ensures.front
    c.deref-2.ensures.value c.deref-3.ensures.value (take_rest pairs s.taken) c.in_ok-room.ensures.grown in
    let H : List ℕ → List BasePair → List ℕ → List ℕ → List BasePair → Type 0 = λ n b p k cs.
    Grows now after (GivesFrom n b p k cs) in
    let second = lists_are H c.deref.result.now s.numbers.items c.deref-2.result.now s.places.items
    c.deref-3.result.now s.kept.items c.split_at.result.1.now (drop c.args.done before) pairs pairs
    c.deref.ensures.value c.split_at.ensures.back c.deref-2.ensures.value c.deref-3.ensures.value refl
    c.in_ok-left.ensures.grown in
    let all = second_grown s pairs before c.args.done c.requires.taken now first after second in
    let P : List BasePair → List BasePair → Type 0 = λ b p.
    Grows [] after (GivesFrom s.numbers.items b s.places.items s.kept.items p) in
    record {
      few = omega arith;
      given = subst (λ z. P z (take (length pairs) pairs)) (sym (take_whole before))
          (subst (P before) (sym (take_whole pairs)) all);
    }

pub returns-clause-extends : goal.returns-clause-extends
returns-clause-extends c = extends_then c.args.self.now.states.keys c.grow_states.new.set.keys
    c.grow_states-2.new.set.keys c.in_ok-room.ensures.extends c.in_ok-left.ensures.extends
