use Rattle.std.proofs.Common.{◌≡◌, ◌++◌, drop, map}
use Rattle.search_moves.specs.Places.{each_from, each_place}
use Rattle.fo_formula.specs.declared.nodes.FoRule.TheVariants.{Unfold}
use Rattle.fo_search.specs.After.{unfold_at}
use Rattle.fo_search.proofs.moves.after.unfolds.Given as goal

abbrev pub invariant-loop-i : goal.invariant-loop-i
invariant-loop-i l = map Unfold l.places.items ++ each_from unfold_at l.i (drop l.i l.left)
    ≡ each_place unfold_at l.left
