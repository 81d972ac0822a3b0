use Rattle.std.proofs.Common.{sym, ◌∙◌}
use Rattle.back_links.proofs.ProspectLoops.{atoms_end}
use Rattle.back_links.proofs.prospects.could_match_those.Goals as goal

pub returns-then-i-xs : goal.returns-then-i-xs
returns-then-i-xs c =
    sym (atoms_end c.args.n c.args.pures.now c.args.atoms.now c.args.pairs.now c.args.places.now c.args.xs.now
    c.loop-i.i c.if-i-xs.true c.loop-i-test.true) ∙ c.loop-i.invariant.0
