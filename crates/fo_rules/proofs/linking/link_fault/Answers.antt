use Rattle.std.proofs.Common.{◌∙◌}
use Rattle.std.proofs.lemmas.Result.{IfOk-weaker}
use Rattle.fo_rules.proofs.LinkMaking.{placed, left_found, left_none}
use Rattle.fo_rules.proofs.linking.link_fault.Goals as goal

pub returns-in-Some : goal.returns-in-Some
returns-in-Some c =
    let link = c.args.link.now in
    let e = placed link c.in_ok-change.change c.args.bud.now.left c.as_slice.result.now c.as_slice-entries.result.now
    link.left_map c.as_slice-atoms.result.now c.args.companion.now.left c.in_ok-k.field-0 c.in_ok-change.ensures
    c.as_slice.ensures c.as_slice-entries.ensures c.as_slice-atoms.ensures c.in_ok-k.ensures in
    left_found c.args.bud.now c.args.companion.now link c.in_ok-k.field-0 c.in-Some.k e c.in-Some.is

pub returns : goal.returns
returns c =
    let link = c.args.link.now in
    let e = placed link c.in_ok-change.change c.args.bud.now.left c.as_slice.result.now c.as_slice-entries.result.now
    link.left_map c.as_slice-atoms.result.now c.args.companion.now.left c.in_ok-k.field-0 c.in_ok-change.ensures
    c.as_slice.ensures c.as_slice-entries.ensures c.as_slice-atoms.ensures c.in_ok-k.ensures in
    IfOk-weaker c.right_fault.result _ _
    (λ o r. r ∙ left_none c.args.bud.now c.args.companion.now link c.in_ok-k.field-0 e c.in-None.is)
    c.right_fault.ensures
