use Rattle.std.proofs.Common.{◌∙◌, ◌<◌, length, sym, arith}
use Rattle.sat_pairs.specs.Turns.{IsTurn, case_of}
use Rattle.sat_pairs.proofs.Taken.{grown_then}
use Rattle.sat_pairs.proofs.Turned.{each_get, map_set, turns_set}
use Rattle.sat_pairs.proofs.rounds.work_through.Goals as goal

pub put_turn-requires-clause-turn : goal.put_turn-requires-clause-turn
put_turn-requires-clause-turn c =
    each_get (IsTurn c.args.defs.now.list c.args.limits.states c.loop-turn.table c.args.cell.now)
    c.loop-turn.turns.items c.in-Some.place c.index_mut.result.now c.loop-turn.invariant.turns (omega arith)
    (sym c.index_mut.ensures.value)

pub loop-turn-preserved : goal.loop-turn-preserved
loop-turn-preserved c =
    let ds = c.args.defs.now.list in
    let states = c.args.limits.states in
    let turns = c.loop-turn.turns.items in
    let i = c.in-Some.place in
    let old = c.loop-turn.table in
    let new = c.put_turn.new.table in
    let there : i < length turns = omega arith in
    record {
      part = c.in_ok-now.ensures.part.0;
      count = c.in_ok-now.ensures.part.1;
      grown = grown_then c.args.table.now old new c.loop-turn.invariant.grown c.in_ok-now.ensures.grown;
      same = map_set case_of turns i c.index_mut.result.now c.put_turn.new.turn there (sym c.index_mut.ensures.value)
          c.in_ok-now.ensures.same ∙ c.loop-turn.invariant.same;
      turns = turns_set ds states old new c.args.cell.now c.in_ok-now.ensures.grown turns i c.put_turn.new.turn
          c.in_ok-now.ensures.turn c.loop-turn.invariant.turns;
    }
