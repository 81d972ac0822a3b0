use Rattle.std.proofs.Common.{◌≡◌, ◌++◌, drop}
use Rattle.std.specs.List.{filter}
use Rattle.search_moves.specs.Places.{each_from, each_place}
use Rattle.fo_search.specs.After.{rights_at}
use Rattle.fo_search.specs.Told.{rights_going}
use Rattle.fo_search.specs.Trying.{is_applicable_within}
use Rattle.fo_search.proofs.moves.after.cases_left.Given as goal

abbrev pub invariant-loop-j : goal.invariant-loop-j
invariant-loop-j l =
    rights_going l.most l.theory l.sequent l.all.items
    ++ filter (is_applicable_within l.most l.theory l.sequent)
    (each_from (rights_at l.theory l.sequent) l.j (drop l.j l.sequent.right))
    ≡ filter (is_applicable_within l.most l.theory l.sequent)
    (each_place (rights_at l.theory l.sequent) l.sequent.right)
