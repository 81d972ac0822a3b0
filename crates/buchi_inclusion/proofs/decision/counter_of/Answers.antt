-- The move, then the way back, is a cycle whose least event is bad.
use Rattle.std.proofs.Common.{◌≡◌, ◌++◌, [], ◌∷◌, List, arith, sym, refl, ap, ◌∙◌, subst}
use Rattle.trace_pairs.specs.declared.lasso.Step.{Step}
use Rattle.buchi_inclusion.specs.Table.{state_of, states_of}
use Rattle.buchi_inclusion.specs.Decision.{IsCounter}
use Rattle.buchi_inclusion.proofs.Deciding.{counter_is, item_small}
use Rattle.buchi_inclusion.proofs.decision.counter_of.Goals as goal

pub overflow_cast-edge : goal.overflow_cast-edge
overflow_cast-edge c = let l = item_small c.args.class.now.graph.now (states_of c.args.class.now.table.now.states)
    c.args.place c.args.edge c.requires.back.item c.requires.class.graph c.requires.back.is_item in omega (arith, l)

pub returns : goal.returns
returns c =
    let step : Step = record { node = c.in-Some.state.node; edge = c.args.edge } in
    let e : c.extend_from_slice.new.self.items ≡ step ∷ c.args.back.now = c.in_ok-extend_from_slice.ensures.items
    ∙ ap (λ (xs : List Step). xs ++ c.args.back.now) (c.in_ok-push.ensures.items
    ∙ ap (λ (xs : List Step). xs ++ (step ∷ [])) c.new-cycle.ensures.items) in
    let whole : c.new.result ≡ record { stem = c.in_ok-stem.stem.items; cycle = step ∷ c.args.back.now } = c.new.ensures
    ∙ ap (λ (xs : List Step). record { stem = c.in_ok-stem.stem.items; cycle = xs }) e in
    subst (IsCounter c.args.class.now.graph.now) (sym whole)
    (counter_is c.args.class.now.graph.now (states_of c.args.class.now.table.now.states)
    c.args.class.now.table.now.rows.items c.requires.class.table c.requires.class.graph c.args.class.now.least
    c.args.place c.args.edge c.requires.back.item (state_of c.in-Some.state)
    step c.in_ok-stem.stem.items c.args.back.now
    c.requires.class.least c.requires.back.is_item c.requires.back.first c.in-Some.ensures refl refl
    c.requires.back.walk c.in_ok-stem.ensures)
