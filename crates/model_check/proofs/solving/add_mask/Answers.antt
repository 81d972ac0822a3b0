use Rattle.std.proofs.Common.{◌<◌, arith, vec_len, subst}
use Rattle.model_check.specs.WideMasks.{number}
use Rattle.model_check.specs.Tables.{Added}
use Rattle.model_check.proofs.TableSteps.{row_added_at, row_same_at}
use Rattle.model_check.proofs.solving.add_mask.Goals as goal

pub returns-in_ok-push-clause-members : goal.returns-in_ok-push-clause-members
returns-in_ok-push-clause-members c =
    row_added_at c.args.table.now.items c.args.head (number c.args.mask.now)
    c.index_mut.result.now c.add.new.self c.in_ok-add.field-0
    (let l : c.args.head < vec_len c.args.table.now = c.requires in omega (arith, c.args.table.now.ok.0))
    c.index_mut.ensures.value (subst (λ ws. Added c.index_mut.result.now c.add.new.self (number ws)
    c.in_ok-add.field-0) c.in_ok-clone.ensures.cases c.in_ok-add.ensures)

pub returns-else-branch-clause-members : goal.returns-else-branch-clause-members
returns-else-branch-clause-members c =
    row_added_at c.args.table.now.items c.args.head (number c.args.mask.now)
    c.index_mut.result.now c.add.new.self c.in_ok-add.field-0
    (let l : c.args.head < vec_len c.args.table.now = c.requires in omega (arith, c.args.table.now.ok.0))
    c.index_mut.ensures.value (subst (λ ws. Added c.index_mut.result.now c.add.new.self (number ws)
    c.in_ok-add.field-0) c.in_ok-clone.ensures.cases c.in_ok-add.ensures)

pub returns-else-branch-clause-same : goal.returns-else-branch-clause-same
returns-else-branch-clause-same c = λ e.
    row_same_at c.args.table.now.items c.args.head (number c.args.mask.now)
    c.index_mut.result.now c.add.new.self c.in_ok-add.field-0
    (let l : c.args.head < vec_len c.args.table.now = c.requires in omega (arith, c.args.table.now.ok.0))
    c.index_mut.ensures.value c.if-branch.false (subst (λ ws.
    Added c.index_mut.result.now c.add.new.self (number ws) c.in_ok-add.field-0)
    c.in_ok-clone.ensures.cases c.in_ok-add.ensures)
