use Rattle.std.proofs.Common.{◌≡◌, length}
use Rattle.refute_unfoldings.specs.Consistency.{IsConsistent}
use Rattle.refute_unfoldings.proofs.unfolding.Unfolding.reach.Given as goal

abbrev pub invariant-loop-n : goal.invariant-loop-n
invariant-loop-n l =
    (length l.self-inside.classes.items ≡ l.n)
    × IsConsistent (record {
      classes = l.self-inside.classes.items;
      cells = l.self-inside.cells.items;
      apart = l.self-inside.apart.items;
    })
