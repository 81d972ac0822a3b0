use Rattle.std.proofs.Common.{List, Bool, sym, ap, ◌∙◌}
use Rattle.std.specs.Prelude.{Vec}
use Rattle.std.specs.declared.alloc.Global.{Global}
use Rattle.proof_picture.specs.Kept.{both}
use Rattle.proof_picture.proofs.Keeping.{come-set}
use Rattle.proof_picture.proofs.names.kept.come.Goals as goal

pub returns-in_ok-next : goal.returns-in_ok-next
returns-in_ok-next c =
    let count = c.args.count in
    let names = c.args.names.now in
    come-set count c.args.ways.now c.args.target names c.index-ways-target.result c.in_ok-next.next
    c.if-target-ways.true c.index-ways-target.is
    (c.in_ok-next.ensures
    ∙ ap (λ (fs : List Bool). both count fs names) c.as_slice.ensures.value
    ∙ ap (λ (v : Vec Bool Global). both count v.items names) (sym c.index-ways-target.is))
