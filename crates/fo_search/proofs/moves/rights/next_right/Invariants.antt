use Rattle.std.proofs.Common.{◌≡◌, length}
use Rattle.fo_search.specs.Told.{rights_left, going}
use Rattle.fo_search.proofs.moves.rights.next_right.Given as goal

abbrev pub invariant-loop-terms : goal.invariant-loop-terms
invariant-loop-terms l =
    going l.at (rights_left l.at.sequent.now.left l.at.values.now l.case)
    ≡ going l.at (rights_left l.at.sequent.now.left l.at.values.now l.initial.case)

abbrev pub decreases-loop-terms : goal.decreases-loop-terms
decreases-loop-terms l = length (rights_left l.at.sequent.now.left l.at.values.now l.case)
