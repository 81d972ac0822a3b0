use Rattle.pair_family.proofs.Growing.{extends_added, grows_added}
use Rattle.pair_family.proofs.Sized.{many_then, room_more, room_same}
use Rattle.pair_family.proofs.states.states.grow.Goals as goal

pub returns-then-not-is_new-clause-room : goal.returns-then-not-is_new-clause-room
returns-then-not-is_new-clause-room c =
    room_same c.args.set.now.keys c.add.new.set.keys c.args.room c.args.known c.requires c.in_ok-is_new.is_new
    c.if-not-is_new.true c.in_ok-is_new.ensures

pub returns-in-None-clause-many : goal.returns-in-None-clause-many
returns-in-None-clause-many c e =
    many_then c.args.set.now.keys c.add.new.set.keys c.args.room c.args.known c.requires c.in_ok-is_new.is_new
    c.if-not-is_new.false c.in_ok-is_new.ensures c.in-None.ensures

pub returns-in-Some-clause-room : goal.returns-in-Some-clause-room
returns-in-Some-clause-room c =
    room_more c.args.set.now.keys c.add.new.set.keys c.args.room c.args.known c.requires c.in_ok-is_new.is_new
    c.if-not-is_new.false c.in_ok-is_new.ensures c.in-Some.left c.in-Some.ensures

pub returns-in-Some-clause-grown : goal.returns-in-Some-clause-grown
returns-in-Some-clause-grown c =
    grows_added c.args.set.now.keys c.add.new.set.keys c.args.known c.in_ok-is_new.is_new c.in_ok-is_new.ensures

pub returns-then-not-is_new-clause-extends : goal.returns-then-not-is_new-clause-extends
returns-then-not-is_new-clause-extends c =
    extends_added c.args.set.now.keys c.add.new.set.keys c.args.known c.in_ok-is_new.is_new c.in_ok-is_new.ensures

pub returns-in-Some-clause-extends : goal.returns-in-Some-clause-extends
returns-in-Some-clause-extends c =
    extends_added c.args.set.now.keys c.add.new.set.keys c.args.known c.in_ok-is_new.is_new c.in_ok-is_new.ensures
