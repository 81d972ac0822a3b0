use Rattle.std.proofs.Common.{ℕ, sym, ◌∙◌}
use Rattle.back_links.proofs.Selecting.{kept_next, left_next}
use Rattle.fo_search.specs.Links.{stands_in}
use Rattle.fo_search.proofs.moves.variables.variables.Goals.{then-stands_in+in_ok-push, else-stands_in}
use Rattle.fo_search.proofs.moves.variables.variables.Goals as goal

pub loop-n-preserved : goal.loop-n-preserved
loop-n-preserved c =
    let test = λ (n : ℕ). stands_in n c.args.sequent.now in
    elim c.if-stands_in.branch [
      | then-stands_in+in_ok-push w ↦ rw (w.all-is, w.in_ok-push.ensures.items)
          (kept_next test c.loop-n.n c.bound_of_sequent-bound.result c.loop-n.all.items _ c.loop-n-test.true
          (sym c.stands_in.ensures ∙ w.if-stands_in.true) c.loop-n.invariant)
      | else-stands_in w ↦ rw w.all-is
          (left_next test c.loop-n.n c.bound_of_sequent-bound.result c.loop-n.all.items _ c.loop-n-test.true
          (sym c.stands_in.ensures ∙ w.if-stands_in.false) c.loop-n.invariant)
    ]
