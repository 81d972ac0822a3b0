use Rattle.back_links.specs.Searching.{MayStartAt}
use Rattle.back_links.proofs.prospects.first_with.Given as goal

abbrev pub invariant-loop-i : goal.invariant-loop-i
invariant-loop-i l = MayStartAt l.search l.places l.n l.i
