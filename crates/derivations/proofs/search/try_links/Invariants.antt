use Rattle.std.proofs.Common.{◌≡◌, ◌<◌, ◌≤◌}
use Rattle.std.specs.VecDeque.{deque_len}
use Rattle.derivations.specs.System.{System}
use Rattle.cyc_basics.specs.Words.{Each}
use Rattle.derivations.proofs.Trying.{AreLeft}
use Rattle.derivations.proofs.search.try_links.Given as goal

abbrev pub invariant-loop-link : goal.invariant-loop-link
invariant-loop-link g l = record {
  made : g.M.Moves.made l.moves ≡ g.M.Moves.made l.fn.moves;
  order : g.M.Moves.in_order l.moves;
  subject : g.M.Moves.subject l.moves ≡ g.M.Moves.subject l.fn.moves;
  kept : (s : System _) → g.M.Moves.follows l.fn.moves s → g.M.Moves.follows l.moves s;
  offered : Each (g.M.Moves.may_offer (g.M.Moves.subject l.fn.moves)) l.links.items;
  admitted : Each (g.M.Moves.may_offer (g.M.Moves.subject l.fn.moves)) l.admitted.items;
  more : l.fn.count ≤ l.count;
  below : l.count < l.most;
  left : (s : System _) → g.M.Moves.follows l.fn.moves s
      → AreLeft s l.most (g.M.Moves.made l.fn.moves) l.fn.links.items l.fn.count l.admitted.items l.links.items l.count;
}

abbrev pub decreases-loop-link : goal.decreases-loop-link
decreases-loop-link g l = deque_len l.links
