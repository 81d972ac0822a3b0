use Rattle.std.proofs.Common.{◌≡◌, ◌++◌, drop}
use Rattle.std.specs.List.{filter}
use Rattle.search_moves.specs.Places.{each_from, each_place}
use Rattle.fo_search.specs.After.{rights_by}
use Rattle.fo_search.specs.Told.{rights_going}
use Rattle.fo_search.specs.Trying.{is_applicable_within}
use Rattle.fo_search.proofs.moves.after.push_cases.Given as goal

abbrev pub invariant-loop-c : goal.invariant-loop-c
invariant-loop-c l =
    rights_going l.most l.theory l.sequent l.all.items
    ++ filter (is_applicable_within l.most l.theory l.sequent)
    (each_from (rights_by l.sequent l.j l.arguments) l.c (drop l.c l.cases))
    ≡ rights_going l.most l.theory l.sequent l.initial.all.items
    ++ filter (is_applicable_within l.most l.theory l.sequent)
    (each_place (rights_by l.sequent l.j l.arguments) l.cases)
