use Rattle.model_check.proofs.Loops.{added_full}
use Rattle.model_check.proofs.unions.Row.add.Goals as goal

pub returns : goal.returns
returns c = rw (← c.self.view_is)
    (added_full c.self.inside.masks.keys c.insert_full.new.self.keys c.args.mask c.in_ok-is_new.is_new
    c.in_ok-is_new.ensures.added c.in_ok-is_new.ensures.keys)
