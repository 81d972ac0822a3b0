use Rattle.std.proofs.Common.{◌≡◌, ◌++◌, drop}
use Rattle.fo_search.proofs.Beginnings.{chosen_in}
use Rattle.fo_search.proofs.moves.walking.chosen.Given as goal

abbrev pub invariant-loop-place : goal.invariant-loop-place
invariant-loop-place l = l.terms.items ++ chosen_in l.values (drop l.place-index l.places) ≡ chosen_in l.values l.places
