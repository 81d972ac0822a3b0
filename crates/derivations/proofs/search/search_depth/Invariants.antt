use Rattle.std.proofs.Common.{◌≡◌, ◌<◌, ◌-◌, map}
use Rattle.derivations.specs.Engine.{AreFramesOffered, offers_in}
use Rattle.derivations.specs.System.{System}
use Rattle.derivations.proofs.Depth.{IsAt}
use Rattle.derivations.proofs.search.search_depth.Given as goal

abbrev pub invariant-loop-frames : goal.invariant-loop-frames
invariant-loop-frames g l = record {
  order : g.M.Moves.in_order l.moves;
  offered : AreFramesOffered (g.M.Moves.may_offer (g.M.Moves.subject l.fn.moves))
      (map (offers_in g.M.Rules.Cursor.left) l.frames.items);
  subject : g.M.Moves.subject l.moves ≡ g.M.Moves.subject l.fn.moves;
  kept : (s : System _) → g.M.Moves.follows l.fn.moves s → g.M.Moves.follows l.moves s;
  below : l.count < l.most;
  at : (s : System _) → g.M.Moves.follows l.fn.moves s
      → IsAt s l.most l.bound (g.M.Moves.made l.moves) (map (offers_in g.M.Rules.Cursor.left) l.frames.items) l.count;
}

abbrev pub decreases-loop-frames : goal.decreases-loop-frames
decreases-loop-frames g l = l.most - l.count
