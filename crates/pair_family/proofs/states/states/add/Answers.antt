use Rattle.pair_family.proofs.Interned.{added_is}
use Rattle.pair_family.proofs.states.states.add.Goals as goal

pub returns : goal.returns
returns c = added_is c.args.set.now.keys c.insert_full.new.self.keys c.args.known c.in_ok-is_new.is_new
    c.in_ok-is_new.ensures.added c.in_ok-is_new.ensures.keys
