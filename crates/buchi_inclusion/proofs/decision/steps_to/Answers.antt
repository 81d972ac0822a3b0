-- Back from visit to visit, each step stands before the later ones.
use Rattle.std.proofs.Common.{◌≡◌, [], ◌∷◌, List, Some, slice_get, reverse, arith, sym, refl, ap, ◌∙◌, subst}
use Rattle.std.proofs.lemmas.List.{reverse-append}
use Rattle.std.proofs.lemmas.Option.{slice_get_within}
use Rattle.trace_pairs.specs.declared.lasso.Step.{Step}
use Rattle.trace_pairs.specs.declared.reach.Visit.{Visit}
use Rattle.buchi_core.proofs.Lists.{get_one}
use Rattle.buchi_inclusion.specs.Table.{state_of, states_of}
use Rattle.buchi_inclusion.specs.Decision.{IsWayBetween}
use Rattle.buchi_inclusion.proofs.Deciding.{between_none, between_more}
use Rattle.buchi_inclusion.proofs.decision.steps_to.Goals as goal
use Rattle.cyc_basics.proofs.Places.{get_within}

pub loop-at-init : goal.loop-at-init
loop-at-init c =
    let w = get_within c.args.visits.now c.args.place c.requires.place in
    record {
      within = c.requires.place;
      walk = subst (λ (xs : List Step). IsWayBetween c.args.class.now.graph.now
          (states_of c.args.class.now.table.now.states)
          c.args.class.now.least c.args.visits.now c.args.place c.args.place (reverse xs))
          (sym c.new-steps.ensures.items)
          (between_none c.args.class.now.graph.now (states_of c.args.class.now.table.now.states)
          c.args.class.now.least c.requires.ways.0 c.args.visits.now c.args.place w.0 c.requires.ways.1 w.1);
    }

pub unreachable-requires-in_default-visit_at : goal.unreachable-requires-in_default-visit_at
unreachable-requires-in_default-visit_at c =
    omega (
      arith,
      c.in_default-visit_at.ensures,
      c.loop-at.invariant.within,
      (c.requires.ways.1.led c.loop-at.at c.in-Some.visit.now c.in-Some.ensures c.loop-at-test.true).earlier,
    )

pub unreachable-requires-in_default-state_at : goal.unreachable-requires-in_default-state_at
unreachable-requires-in_default-state_at c =
    let s = c.requires.ways.1.listed c.in-Some.visit.now.from c.in-Some-visit_at.from.now c.in-Some-visit_at.ensures in
    omega (
      arith,
      c.in_default-state_at.ensures,
      slice_get_within (states_of c.args.class.now.table.now.states)
          c.in-Some-visit_at.from.now.state s.0 s.1,
    )

pub overflow_cast-visit : goal.overflow_cast-visit
overflow_cast-visit c = let l =
    (c.requires.ways.1.led c.loop-at.at c.in-Some.visit.now c.in-Some.ensures c.loop-at-test.true).small in
    omega (arith, l)

pub loop-at-smaller : goal.loop-at-smaller
loop-at-smaller c =
    (c.requires.ways.1.led c.loop-at.at c.in-Some.visit.now c.in-Some.ensures c.loop-at-test.true).earlier

pub loop-at-preserved : goal.loop-at-preserved
loop-at-preserved c =
    let l = c.requires.ways.1.led c.loop-at.at c.in-Some.visit.now c.in-Some.ensures c.loop-at-test.true in
    let same : l.from
    ≡ c.in-Some-visit_at.from.now = get_one c.args.visits.now c.in-Some.visit.now.from l.from
    c.in-Some-visit_at.from.now l.is_from c.in-Some-visit_at.ensures in
    let step : Step = record { node = c.in-Some-state_at.state.node; edge = c.in-Some.visit.now.edge } in
    let items : reverse c.push.new.self.items ≡ step
    ∷ reverse c.loop-at.steps.items = ap reverse c.in_ok-push.ensures.items
    ∙ reverse-append c.loop-at.steps.items (step ∷ []) in
    record {
      within = omega (arith, l.earlier, c.loop-at.invariant.within);
      walk = subst (IsWayBetween c.args.class.now.graph.now (states_of c.args.class.now.table.now.states)
          c.args.class.now.least c.args.visits.now c.in-Some.visit.now.from c.args.place) (sym items)
          (between_more c.args.class.now.graph.now (states_of c.args.class.now.table.now.states)
          c.args.class.now.least c.args.visits.now c.loop-at.at c.args.place c.in-Some.visit.now.from
          c.in-Some.visit.now (reverse c.loop-at.steps.items) step (state_of c.in-Some-state_at.state)
          l c.loop-at.invariant.walk c.in-Some.ensures refl
          (subst (λ (x : Visit). slice_get (states_of c.args.class.now.table.now.states) x.state
          ≡ Some (state_of c.in-Some-state_at.state)) (sym same) c.in-Some-state_at.ensures) refl refl);
    }
