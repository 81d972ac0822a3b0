use Rattle.std.proofs.Common.{◌≡◌, Err, ap}
use Rattle.pair_family.specs.declared.states.states.StatesFault.TheVariants.{TooManyStates}
use Rattle.pair_family.proofs.Sized.{alone, distinct_none, many_new, room_few}
use Rattle.pair_family.proofs.states.states.first_states.Goals as goal

pub grow-requires : goal.grow-requires
grow-requires c = distinct_none c.new-set.result.keys c.new-set.ensures.empty

pub returns-in-Ok-clause-given : goal.returns-in-Ok-clause-given
returns-in-Ok-clause-given c =
    alone c.new-set.result.keys c.grow.new.set.keys c.args.state c.new-set.ensures.empty c.in-Ok.ensures.grown

pub returns-in-Ok-clause-few : goal.returns-in-Ok-clause-few
returns-in-Ok-clause-few c =
    room_few c.args.most c.in-Ok.field-0 c.new-set.result.keys c.grow.new.set.keys c.new-set.ensures.empty
    c.in-Ok.ensures.room

pub returns-in-Err-clause-many : goal.returns-in-Err-clause-many
returns-in-Err-clause-many c e =
    let f : c.in-Err.fault ≡ TooManyStates = cc in
    many_new c.args.most c.new-set.result.keys (λ d. d ≡ c.args.state) c.new-set.ensures.empty
    (c.in-Err.ensures.many (ap Err f))
