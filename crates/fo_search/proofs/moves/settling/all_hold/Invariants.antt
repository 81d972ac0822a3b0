use Rattle.std.proofs.Common.{◌≡◌, drop, map}
use Rattle.std.specs.List.{list_all}
use Rattle.fo_formula.specs.Words.{in_atom}
use Rattle.fo_rules.specs.Putting.{put}
use Rattle.fo_search.specs.After.{holds_by}
use Rattle.fo_search.proofs.moves.settling.all_hold.Given as goal

abbrev pub invariant-loop-atom : goal.invariant-loop-atom
invariant-loop-atom l = list_all (holds_by l.left) (map (in_atom (put l.change)) (drop l.atom-index l.case))
    ≡ list_all (holds_by l.left) (map (in_atom (put l.change)) l.case)
