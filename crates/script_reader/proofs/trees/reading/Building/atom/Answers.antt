use Rattle.std.proofs.Common.{vec_len, sym, refl, ◌∙◌}
use Rattle.script_reader.proofs.Growing.{atom_comes}
use Rattle.script_reader.proofs.Unfit as unfit
use Rattle.script_reader.proofs.trees.reading.Building.atom.Goals as goal

pub returns-then-refuses-clause-takes : goal.returns-then-refuses-clause-takes
returns-then-refuses-clause-takes c end ts =
    unfit.atom_refused c.args.from c.args.to end ts (vec_len c.args.self.now.open)
    c.args.self.now.begun c.args.kind (sym c.refuses.ensures ∙ c.if-refuses.true)

pub returns-clause-takes : goal.returns-clause-takes
returns-clause-takes c end ts = unfit.atom_taken c.args.from c.args.to end ts (vec_len c.args.self.now.open)
    c.args.self.now.begun c.args.kind (sym c.refuses.ensures ∙ c.if-refuses.false)

pub returns-clause-adds : goal.returns-clause-adds
returns-clause-adds c tokens partial =
    atom_comes _ _ _ _ c.args.kind c.args.from c.args.to c.in_ok-push.ensures.items refl tokens partial
