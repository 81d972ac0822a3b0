use Rattle.std.proofs.Common.{◌≡◌, length}
use Rattle.derivations.specs.Derivations.{IsInOrder, about}
use Rattle.derivations.proofs.found.searching.rewind.Given as goal

abbrev pub invariant-loop-moves : goal.invariant-loop-moves
invariant-loop-moves g l = record {
  order : IsInOrder g.S.Rules.calculus g.S.Rules.occurs g.S.Rules.allows l.moves;
  subject : about l.moves ≡ about l.fn.moves;
}

abbrev pub decreases-loop-moves : goal.decreases-loop-moves
decreases-loop-moves g l = length l.moves.made.items
