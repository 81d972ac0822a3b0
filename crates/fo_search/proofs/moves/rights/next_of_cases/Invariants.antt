use Rattle.std.proofs.Common.{◌≡◌, ◌+◌}
use Rattle.std.specs.VecDeque.{deque_len}
use Rattle.fo_search.specs.Told.{rights_in, going}
use Rattle.fo_search.proofs.Cases.{one_if}
use Rattle.fo_search.proofs.moves.rights.next_of_cases.Given as goal

abbrev pub invariant-loop-current : goal.invariant-loop-current
invariant-loop-current l =
    going l.at (rights_in l.at.sequent.now.left l.at.values.now l.current l.cases.items)
    ≡ going l.at (rights_in l.at.sequent.now.left l.at.values.now l.initial.current l.initial.cases.items)

abbrev pub decreases-loop-current : goal.decreases-loop-current
decreases-loop-current l = deque_len l.cases + one_if l.current
