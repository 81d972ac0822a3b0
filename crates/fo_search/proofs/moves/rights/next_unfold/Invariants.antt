use Rattle.std.proofs.Common.{◌≡◌, map}
use Rattle.std.specs.VecDeque.{deque_len}
use Rattle.fo_formula.specs.declared.nodes.FoRule.TheVariants.{Unfold}
use Rattle.fo_search.specs.Told.{going}
use Rattle.fo_search.proofs.moves.rights.next_unfold.Given as goal

abbrev pub invariant-loop-alloc : goal.invariant-loop-alloc
invariant-loop-alloc l = going l.at (map Unfold l.unfolds.items) ≡ going l.at (map Unfold l.initial.unfolds.items)

abbrev pub decreases-loop-alloc : goal.decreases-loop-alloc
decreases-loop-alloc l = deque_len l.unfolds
