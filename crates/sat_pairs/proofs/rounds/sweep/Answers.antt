use Rattle.std.proofs.Common.{◌∙◌, ◌<◌, length, sym, subst, arith}
use Rattle.std.proofs.lemmas.List.{take_all}
use Rattle.heap_formula.specs.Words.{Each}
use Rattle.sat_pairs.specs.Turns.{IsDone, IsTurn, case_of}
use Rattle.sat_pairs.proofs.Taken.{grown_then}
use Rattle.sat_pairs.proofs.Turned.{done_set, each_get, map_set, same_many, turns_set}
use Rattle.sat_pairs.proofs.rounds.sweep.Goals as goal

pub put_turn-requires-clause-turn : goal.put_turn-requires-clause-turn
put_turn-requires-clause-turn c =
    let m = same_many c.args.turns.now.items c.loop-place.turns.items c.loop-place.invariant.same in
    each_get (IsTurn c.args.defs.now.list c.args.limits.states c.loop-place.table c.args.cell.now)
    c.loop-place.turns.items c.loop-place.place c.index_mut.result.now c.loop-place.invariant.turns (omega arith)
    (sym c.index_mut.ensures.value)

pub loop-place-preserved : goal.loop-place-preserved
loop-place-preserved c =
    let ds = c.args.defs.now.list in
    let states = c.args.limits.states in
    let turns = c.loop-place.turns.items in
    let i = c.loop-place.place in
    let old = c.loop-place.table in
    let new = c.put_turn.new.table in
    let m = same_many c.args.turns.now.items turns c.loop-place.invariant.same in
    let there : i < length turns = omega arith in
    record {
      part = c.in_ok-now.ensures.part.0;
      count = c.in_ok-now.ensures.part.1;
      grown = grown_then c.args.table.now old new c.loop-place.invariant.grown c.in_ok-now.ensures.grown;
      same = map_set case_of turns i c.index_mut.result.now c.put_turn.new.turn there (sym c.index_mut.ensures.value)
          c.in_ok-now.ensures.same ∙ c.loop-place.invariant.same;
      turns = turns_set ds states old new c.args.cell.now c.in_ok-now.ensures.grown turns i c.put_turn.new.turn
          c.in_ok-now.ensures.turn c.loop-place.invariant.turns;
      done = done_set ds states old new c.args.cell.now c.in_ok-now.ensures.grown turns i c.put_turn.new.turn
          c.args.table.now c.loop-place.invariant.grown there c.in_ok-now.ensures.done c.loop-place.invariant.done;
    }

pub returns-clause-done : goal.returns-clause-done
returns-clause-done c =
    let m = same_many c.args.turns.now.items c.loop-place.turns.items c.loop-place.invariant.same in
    subst (Each (IsDone c.args.defs.now.list c.args.limits.states c.args.table.now c.loop-place.table))
    (take_all c.loop-place.place c.loop-place.turns.items (omega arith)) c.loop-place.invariant.done
