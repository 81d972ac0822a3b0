use Rattle.std.proofs.Common.{List, map, drop, sym, ap, ◌+◌, ◌∙◌}
use Rattle.proof_picture.specs.declared.arrows.Arrow.{Arrow}
use Rattle.proof_picture.specs.Arrows.{drawn_of}
use Rattle.proof_picture.specs.declared.folds.entries.Entry.{Entry}
use Rattle.proof_picture.specs.Entries.{enter_all}
use Rattle.proof_picture.proofs.Turns.{dropped}
use Rattle.proof_picture.proofs.folds.entries.enter_arrows.Goals as goal

pub loop-arrow-preserved : goal.loop-arrow-preserved
loop-arrow-preserved c =
    ap (λ (es : List Entry). enter_all es (map drawn_of (drop (c.loop-arrow.arrow-index + 1) c.args.arrows.now)))
    c.enter.ensures
    ∙ ap (λ (bs : List Arrow). enter_all c.loop-arrow.entries (map drawn_of bs))
    (sym (dropped c.args.arrows.now c.loop-arrow.arrow-index c.arrow-item.result c.loop-arrow-test.true
    c.arrow-item.is))
    ∙ c.loop-arrow.invariant
