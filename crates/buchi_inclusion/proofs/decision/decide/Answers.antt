-- Every class is good.
use Rattle.std.proofs.Common.{List, Vec, Global, slice_get, arith, ap, ◌∙◌, sym, inl, inr}
use Rattle.std.proofs.lemmas.Bool.{cases_lt}
use Rattle.buchi_core.specs.declared.event.Event.TheVariants.{Nothing}
use Rattle.buchi_inclusion.specs.declared.product.Transition.{Transition}
use Rattle.buchi_inclusion.specs.Table.{states_of}
use Rattle.buchi_inclusion.specs.Decision.{IsGoodClass}
use Rattle.buchi_inclusion.specs.BadMoves.{IsBadMove}
use Rattle.buchi_inclusion.proofs.Exploring.{none_if}
use Rattle.buchi_inclusion.proofs.Deciding.{all_good}
use Rattle.buchi_inclusion.proofs.decision.decide.Goals as goal

pub returns : goal.returns
returns c =
    all_good c.args.graph.now (states_of c.args.table.now.states)
    c.args.table.now.rows.items c.requires.table c.requires.graph
    (none_if (IsGoodClass c.args.graph.now (states_of c.args.table.now.states) c.args.table.now.rows.items Nothing)
    (IsBadMove c.args.graph.now (states_of c.args.table.now.states)) c.in_ok-found.found (sym c.if-is_some.ensures)
    c.in_ok-found.ensures)
    (λ k l. elim (cases_lt k c.loop-place.place) [
      | inl earlier ↦ c.loop-place.invariant k earlier
      | inr later ↦ λ q row at i m is dies. absurd (c.deaths_of.ensures k
          (omega (arith, l, later, c.loop-place-test.false)) q row
          (ap (λ (rows : List (Vec Transition Global)). slice_get rows q) c.deref.ensures.value ∙ at) i m is dies)
    ])
