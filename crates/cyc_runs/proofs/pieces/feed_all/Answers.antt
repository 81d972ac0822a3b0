use Rattle.std.proofs.Common.{rules}
use Rattle.cyc_runs.proofs.Fed.{fed_past, fed_taken, turn_more}
use Rattle.cyc_runs.proofs.pieces.feed_all.Goals as goal

pub turns-preserved : goal.turns-preserved
turns-preserved g c =
    let turn = rw c.in-Fed.is at c.in_ok-so_far.ensures.turn in
    record {
      fed = turn_more _ _ _ _ _ _ _ _ _ c.turns.invariant.fed turn;
      had = turn.1;
      within = turn.2;
      no_faults = search rules;
    }

pub returns-in-PastLimit-clause-fed : goal.returns-in-PastLimit-clause-fed
returns-in-PastLimit-clause-fed g c =
    fed_past _ _ _ _ _ _ c.turns.invariant.fed c.turns.invariant.within
    (rw c.in-PastLimit.is at c.in_ok-so_far.ensures.turn)

pub returns-in_err-so_far-clause-taken : goal.returns-in_err-so_far-clause-taken
returns-in_err-so_far-clause-taken g c =
    fed_taken _ _ _ _ _ _ c.turns.invariant.fed c.turns.invariant.within c.feed_piece.ensures.taken

pub returns-in-PastLimit-clause-taken : goal.returns-in-PastLimit-clause-taken
returns-in-PastLimit-clause-taken g c =
    fed_taken _ _ _ _ _ _ c.turns.invariant.fed c.turns.invariant.within c.feed_piece.ensures.taken
