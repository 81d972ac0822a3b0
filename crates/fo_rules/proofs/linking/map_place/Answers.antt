use Rattle.fo_formula.specs.Words.{in_atom}
use Rattle.fo_rules.specs.Putting.{put}
use Rattle.fo_rules.proofs.LinkMaking.{place_long}
use Rattle.fo_rules.proofs.linking.map_place.Goals as goal

pub returns-then-entries-atoms : goal.returns-then-entries-atoms
returns-then-entries-atoms c =
    place_long c.args.bud.now (in_atom (put c.args.change.now))
    c.loop-k.k c.args.entries.now c.args.atoms.now _ c.loop-k-test.false c.loop-k.auto.k-end c.if-entries-atoms.true
    c.loop-k.invariant
