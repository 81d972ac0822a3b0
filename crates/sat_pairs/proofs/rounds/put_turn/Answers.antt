use Rattle.std.proofs.Common.{◌≡◌, ◌∙◌, [], false, Err, refl, sym, ap, subst, arith}
use Rattle.std.proofs.lemmas.Bool.{both_ways}
use Rattle.std.proofs.lemmas.Result.{err_from_is_err_and}
use Rattle.heap_formula.specs.Meaning.{cases_of}
use Rattle.pair_family.specs.Family.{CaseGives, InFamily}
use Rattle.pair_family.specs.LargeCases.{IsLarge}
use Rattle.pair_family.specs.Tables.{in_table}
use Rattle.pair_family.proofs.Large.{large_within}
use Rattle.pair_family.proofs.Rounds.{gives_within}
use Rattle.sat_pairs.specs.declared.rounds.PairFault.TheVariants as faults
use Rattle.sat_pairs.specs.Growth.{pair_fault_of}
use Rattle.sat_pairs.specs.Atoms.{HasSome}
use Rattle.sat_pairs.specs.Stages.{atoms_of}
use Rattle.sat_pairs.specs.Turns.{IsDone, IsTurn, heap_of}
use Rattle.sat_pairs.proofs.Taken.{case_sound, large_there, states_fault}
use Rattle.sat_pairs.proofs.Turned.{done_none, done_put, index_member, turn_put}
use Rattle.sat_pairs.proofs.rounds.put_turn.Goals as goal

pub returns-then-not-have_pairs-clause-done : goal.returns-then-not-have_pairs-clause-done
returns-then-not-have_pairs-clause-done c =
    done_none c.args.defs.now.list c.args.limits.states c.args.table.now c.args.cell.now c.args.turn.now
    c.requires.cell c.requires.turn (λ h. both_ways false refl (c.if-not-have_pairs.ensures.1
    (subst (λ z. HasSome c.args.table.now c.args.cell.now (atoms_of z)) (sym c.deref.ensures.value) h)))

pub take_in-requires-clause-some : goal.take_in-requires-clause-some
take_in-requires-clause-some c =
    subst (λ z. HasSome c.args.table.now c.args.cell.now (atoms_of z)) c.deref.ensures.value
    (c.if-not-have_pairs.ensures.0 refl)

pub put_found-requires-clause-there : goal.put_found-requires-clause-there
put_found-requires-clause-there c =
    let e = c.in_ok-take_in.ensures.same.0 in
    let l = c.requires.part.long in
    let t = c.requires.turn.pred in
    omega arith

pub put_found-requires-clause-put : goal.put_found-requires-clause-put
put_found-requires-clause-put c = c.in_ok-take_in.ensures.turn.is.put

pub put_found-requires-clause-given : goal.put_found-requires-clause-given
put_found-requires-clause-given c = c.in_ok-take_in.ensures.turn.is.given

pub put_found-requires-clause-members : goal.put_found-requires-clause-members
put_found-requires-clause-members c =
    let ds = c.args.defs.now.list in
    let t = c.args.turn.now in
    let a = heap_of ds t in
    let m = index_member (cases_of ds t.pred) t.place (record { pure = []; spatial = [] }) c.requires.turn.place in
    λ b i. subst (λ p. InFamily ds p b) (sym c.in_ok-take_in.ensures.same.0)
    (case_sound ds t.pred c.arity_at-k.result a c.arity_at-k.ensures m b
    (gives_within (in_table c.args.table.now) (InFamily ds) (λ p d j. c.requires.part.members p d j)
    c.arity_at-k.result b a ((c.in_ok-take_in.ensures.found b).0 i)))

pub returns-clause-same : goal.returns-clause-same
returns-clause-same c =
    let e = c.in_ok-now.ensures.turn in
    let s = c.in_ok-take_in.ensures.same in
    λ i. ((ap (λ z. z.pred) e ∙ s.0) i, (ap (λ z. z.place) e ∙ s.1) i)

pub returns-clause-turn : goal.returns-clause-turn
returns-clause-turn c =
    subst (IsTurn c.args.defs.now.list c.args.limits.states c.put_found.new.table c.args.cell.now)
    (sym c.in_ok-now.ensures.turn)
    (turn_put c.args.defs.now.list c.args.limits.states c.args.table.now c.put_found.new.table c.args.cell.now
    c.take_in.new.self c.in_ok-now.ensures.grown c.in_ok-now.ensures.taken c.in_ok-take_in.ensures.turn)

pub returns-clause-done : goal.returns-clause-done
returns-clause-done c =
    let ds = c.args.defs.now.list in
    let t = c.args.turn.now in
    let u = c.take_in.new.self in
    let s = c.in_ok-take_in.ensures.same in
    subst (IsDone ds c.args.limits.states c.args.table.now c.put_found.new.table)
    (sym c.in_ok-now.ensures.turn)
    (done_put ds c.args.limits.states c.args.table.now c.put_found.new.table t u s.0 s.1 c.in_ok-now.ensures.taken
    (λ b. let f = c.in_ok-take_in.ensures.found b in (
      λ m. subst (λ k. CaseGives (in_table c.args.table.now) k b (heap_of ds t)) c.arity_at-k.ensures (f.0 m),
      λ g. f.1 (subst (λ k. CaseGives (in_table c.args.table.now) k b (heap_of ds t)) (sym c.arity_at-k.ensures) g),
    )) (subst (λ k. ¬ IsLarge c.args.limits.states (in_table c.args.table.now) k (heap_of ds t)) c.arity_at-k.ensures
    c.in_ok-take_in.ensures.small))

pub returns-in_err-take_in-clause-large : goal.returns-in_err-take_in-clause-large
returns-in_err-take_in-clause-large c e =
    let ds = c.args.defs.now.list in
    let t = c.args.turn.now in
    let a = heap_of ds t in
    let m = index_member (cases_of ds t.pred) t.place (record { pure = []; spatial = [] }) c.requires.turn.place in
    let q = err_from_is_err_and c.from_residual.result c.from_residual.ensures.1 in
    let q1 = q.1 in
    let q2 = q.2 in
    let g : pair_fault_of c.in_err-take_in.field-0.0 ≡ faults.TooManyStates = cc in
    let f = states_fault c.in_err-take_in.field-0.0 g in
    large_there ds c.args.limits.states t.pred c.arity_at-k.result a c.arity_at-k.ensures m
    (large_within (in_table c.args.table.now) (InFamily ds) (λ p d i. c.requires.part.members p d i)
    c.args.limits.states c.arity_at-k.result a (c.in_err-take_in.ensures.large (ap Err f)))

pub returns-in_err-now-clause-large : goal.returns-in_err-now-clause-large
returns-in_err-now-clause-large c e =
    let q = err_from_is_err_and c.from_residual-in_err-now.result c.from_residual-in_err-now.ensures.1 in
    let q1 = q.1 in
    let q2 = q.2 in
    let f : c.in_err-now.field-0.0 ≡ faults.TooManyStates = cc in
    absurd (c.in_err-now.ensures.no_states (ap Err f))
