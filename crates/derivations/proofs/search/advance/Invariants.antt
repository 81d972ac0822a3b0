use Rattle.std.proofs.Common.{◌≡◌, ◌++◌, map, length, vec_len}
use Rattle.derivations.specs.Engine.{AreFramesOffered, offers_in}
use Rattle.cyc_basics.specs.Words.{Each}
use Rattle.derivations.specs.System.{System}
use Rattle.derivations.specs.Stack.{rest, later, front}
use Rattle.derivations.proofs.search.advance.Given as goal

abbrev pub invariant-loop-frame : goal.invariant-loop-frame
invariant-loop-frame g l = record {
  order : g.M.Moves.in_order l.moves;
  offered : AreFramesOffered (g.M.Moves.may_offer (g.M.Moves.subject l.fn.moves))
      (map (offers_in g.M.Rules.Cursor.left) l.frames.items);
  subject : g.M.Moves.subject l.moves ≡ g.M.Moves.subject l.fn.moves;
  kept : (s : System _) → g.M.Moves.follows l.fn.moves s → g.M.Moves.follows l.moves s;
  left : (s : System _) → g.M.Moves.follows l.fn.moves s
      → rest s l.bound (g.M.Moves.made l.fn.moves) (map (offers_in g.M.Rules.Cursor.left) l.fn.frames.items)
      ≡ rest s l.bound (g.M.Moves.made l.moves) (map (offers_in g.M.Rules.Cursor.left) l.frames.items);
}

abbrev pub decreases-loop-frame : goal.decreases-loop-frame
decreases-loop-frame g l = vec_len l.frames

abbrev pub invariant-loop-frame-2 : goal.invariant-loop-frame-2
invariant-loop-frame-2 g l = record {
  long : vec_len l.frames ≡ vec_len l.initial.frames;
  order : g.M.Moves.in_order l.moves;
  offered : AreFramesOffered (g.M.Moves.may_offer (g.M.Moves.subject l.fn.moves))
      (map (offers_in g.M.Rules.Cursor.left) l.frames.items);
  top : Each (g.M.Moves.may_offer (g.M.Moves.subject l.fn.moves)) (offers_in g.M.Rules.Cursor.left l.frame);
  subject : g.M.Moves.subject l.moves ≡ g.M.Moves.subject l.fn.moves;
  kept : (s : System _) → g.M.Moves.follows l.fn.moves s → g.M.Moves.follows l.moves s;
  left : (s : System _) → g.M.Moves.follows l.fn.moves s →
      rest s l.bound (g.M.Moves.made l.fn.moves) (map (offers_in g.M.Rules.Cursor.left) l.fn.frames.items)
      ≡ later s l.bound (g.M.Moves.made l.moves) (offers_in g.M.Rules.Cursor.left l.frame)
      ++ rest s l.bound (front (g.M.Moves.made l.moves)) (map (offers_in g.M.Rules.Cursor.left) l.frames.items);
}

abbrev pub decreases-loop-frame-2 : goal.decreases-loop-frame-2
decreases-loop-frame-2 g l = length (offers_in g.M.Rules.Cursor.left l.frame)
