use Rattle.std.proofs.Common.{sym, ◌∙◌, ap, arith}
use Rattle.fo_search.specs.Trying.{is_applicable}
use Rattle.search_moves.proofs.Keeping.{one_more, none_more, enough}
use Rattle.fo_search.proofs.moves.trying.first_that_go.Goals as goal
use Rattle.fo_search.proofs.moves.trying.first_that_go.Goals.{then-kept-most+in_ok-is_applicable+then-branch}
use Rattle.fo_search.proofs.moves.trying.first_that_go.Goals.{else-kept-most}
use Rattle.fo_search.proofs.moves.trying.first_that_go.Goals.{else-kept-most-via-then-kept-most+in_ok-is_applicable+else-branch}
use Rattle.fo_search.proofs.moves.trying.first_that_go.Goals.{else-kept-most-via-else-kept-most}

pub loop-k-preserved : goal.loop-k-preserved
loop-k-preserved c =
    let p = is_applicable c.args.theory.now c.args.sequent.now in
    elim c.if-kept-most.branch [
      | then-kept-most+in_ok-is_applicable+then-branch w ↦ rw (w.rules-is, w.kept-is) (
        one_more p c.loop-k.rules.items w.swap.new.self.items _ c.loop-k.kept c.loop-k.k c.args.most
            w.index.result.now c.loop-k.invariant.1 (omega (
              arith,
              c.loop-k-test.true,
              c.loop-k.invariant.2,
              c.len-k-end.ensures,
            )) w.if-kept-most.true (ap p (sym w.index.ensures) ∙ sym w.in_ok-is_applicable.ensures
            ∙ w.if-branch.true) w.swap.ensures.by_index c.loop-k.invariant.0,
        omega (arith, c.loop-k.invariant.1),
        sym w.swap.new.self.ok.0 ∙ w.swap.ensures.len ∙ c.loop-k.rules.ok.0 ∙ c.loop-k.invariant.2,
      )
      | else-kept-most w ↦ rw (w.rules-is, w.kept-is) (elim w.else-kept-most.branch [
        | else-kept-most-via-then-kept-most+in_ok-is_applicable+else-branch w' ↦ (
          none_more p c.loop-k.rules.items _ c.loop-k.kept c.loop-k.k c.args.most w'.index.result.now
              (omega (arith, c.loop-k-test.true, c.loop-k.invariant.2, c.len-k-end.ensures))
              (ap p (sym w'.index.ensures) ∙ sym w'.in_ok-is_applicable.ensures ∙ w'.if-branch.false)
              c.loop-k.invariant.0,
          omega (arith, c.loop-k.invariant.1),
          c.loop-k.invariant.2,
        )
        | else-kept-most-via-else-kept-most w' ↦ (
          enough p c.loop-k.rules.items _ c.loop-k.kept c.loop-k.k c.args.most
              (omega (arith, w'.if-kept-most.false)) c.loop-k.invariant.0,
          omega (arith, c.loop-k.invariant.1),
          c.loop-k.invariant.2,
        )
      ])
    ]
