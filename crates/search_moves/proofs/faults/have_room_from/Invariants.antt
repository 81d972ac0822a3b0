use Rattle.std.proofs.Common.{◌≡◌, drop}
use Rattle.std.specs.List.{list_all}
use Rattle.search_moves.specs.Rooms.{has_room_from}
use Rattle.search_moves.proofs.faults.have_room_from.Given as goal

abbrev pub invariant-loop-case : goal.invariant-loop-case
invariant-loop-case l = list_all (has_room_from l.most l.number l.a) (drop l.case-index l.cases)
    ≡ list_all (has_room_from l.most l.number l.a) l.cases
