-- All old entries, then their children, then the top entry.
use Rattle.std.proofs.Common.{ap, map}
use Rattle.buchi_core.specs.Forest.{moved, children, top}
use Rattle.buchi_core.specs.View.{entries_of, members}
use Rattle.buchi_core.specs.Young.{made}
use Rattle.buchi_core.proofs.Left.{grown_is}
use Rattle.buchi_core.proofs.grow.grow.Goals as goal

pub returns-clause-grown : goal.returns-clause-grown
returns-clause-grown c =
    grown_is (map (moved c.args._pairs.now (members c.args.positions)) (entries_of c.args.forest.now))
    (children c.args._pairs.now (members c.args.positions) 0 (entries_of c.args.forest.now))
    (top (members c.args.positions))
    (made c.clear.new.young) (made c.push_moved.new.young) (made c.push_children.new.young)
    (made c.push_entry.new.young)
    (ap entries_of c.clear.ensures.none)
    c.push_moved.ensures.moved c.push_children.ensures.children c.push_entry.ensures.entries
